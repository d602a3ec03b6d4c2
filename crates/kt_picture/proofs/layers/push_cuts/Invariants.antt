use Rattle.std.proofs.Common.{◌≡◌, ◌++◌, take}
use Rattle.std.specs.List.{flat_map}
use Rattle.std.specs.String.{string_bytes}
use Rattle.kt_picture.specs.Layers.{cut_text}
use Rattle.kt_picture.specs.Pages.{view_in}
use Rattle.kt_picture.proofs.layers.push_cuts.Given as goal

abbrev pub invariant-loop-cut : goal.invariant-loop-cut
invariant-loop-cut l = (string_bytes l.text) ≡ (string_bytes l.fn.text) ++ flat_map (cut_text (view_in l.page)) (take l.cut-index l.cut-items)
