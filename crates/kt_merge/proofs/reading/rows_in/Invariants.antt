use Rattle.std.proofs.Common.{◌-◌}
use Rattle.kt_merge.proofs.GatherFacts.{GathersPart}
use Rattle.kt_merge.proofs.reading.rows_in.Given as goal

abbrev pub invariant-loop-rows : goal.invariant-loop-rows
invariant-loop-rows g l = GathersPart l.fn.part.process l.fn.part.left l.part l.rows.items

abbrev pub decreases-loop-rows : goal.decreases-loop-rows
decreases-loop-rows g l = 16777218 - l.part.count
