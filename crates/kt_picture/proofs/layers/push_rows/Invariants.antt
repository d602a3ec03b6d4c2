use Rattle.std.proofs.Common.{◌≡◌, ◌++◌, take}
use Rattle.std.specs.List.{flat_map}
use Rattle.std.specs.String.{string_bytes}
use Rattle.kt_picture.specs.Layers.{row_mark}
use Rattle.kt_picture.specs.Pages.{view_in}
use Rattle.kt_picture.proofs.layers.push_rows.Given as goal

abbrev pub invariant-loop-row : goal.invariant-loop-row
invariant-loop-row l = (string_bytes l.text) ≡ (string_bytes l.fn.text) ++ flat_map (row_mark l.layer (view_in l.page)) (take l.row-index l.row-items)
