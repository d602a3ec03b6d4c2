use Rattle.std.proofs.Common.{◌≡◌, ◌≤◌, List, map}
use Rattle.std.specs.List.{range_with_len}
use Rattle.kt_spacetime.specs.declared.event.Event.{Event}
use Rattle.kt_picture.specs.KnownAtRow.{KnownAtRow, stretch_from}
use Rattle.kt_picture.specs.KnownOf.{KnownOf}
use Rattle.kt_picture.proofs.window.lane_ends.Given as goal

abbrev pub invariant-loop-number : goal.invariant-loop-number
invariant-loop-number l = record {
  items : (s : KnownAtRow) (rows : List Event) → KnownOf l.known l.walk s rows → l.ends.items ≡ map (stretch_from s) (range_with_len 0 l.number);
  low : l.number ≤ 64;
}
