use Rattle.std.proofs.Common.{◌≡◌, ◌++◌, List, drop}
use Rattle.kt_spacetime.specs.declared.event.Event.{Event}
use Rattle.kt_walk.specs.WalkOf.{WalkOf}
use Rattle.kt_picture.specs.Followed.{AreFollowed, told_rows}
use Rattle.kt_picture.proofs.entry.shown_rows.Given as goal

abbrev pub invariant-loop-index : goal.invariant-loop-index
invariant-loop-index l = (upto : List Event) → WalkOf l.walk upto → AreFollowed upto l.entries → l.shown.items ++ told_rows upto (drop l.index l.entries) ≡ told_rows upto l.entries
