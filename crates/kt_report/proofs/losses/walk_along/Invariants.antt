use Rattle.std.proofs.Common.{take}
use Rattle.kt_walk.specs.WalkOf.{WalkOf}
use Rattle.kt_report.proofs.losses.walk_along.Given as goal

abbrev pub invariant-loop-place : goal.invariant-loop-place
invariant-loop-place l = WalkOf l.walk (take l.place l.rows)
