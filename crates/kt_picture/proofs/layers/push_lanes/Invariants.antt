use Rattle.std.proofs.Common.{◌≡◌, ◌++◌, take}
use Rattle.std.specs.List.{flat_map}
use Rattle.std.specs.String.{string_bytes}
use Rattle.kt_picture.specs.Layers.{lane_mark}
use Rattle.kt_picture.specs.Pages.{view_in}
use Rattle.kt_picture.proofs.layers.push_lanes.Given as goal

abbrev pub invariant-loop-p : goal.invariant-loop-p
invariant-loop-p l = (string_bytes l.text) ≡ (string_bytes l.fn.text) ++ flat_map (lane_mark l.thread (view_in l.page)) (take l.p-index l.p-items)
