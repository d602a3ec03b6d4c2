use Rattle.std.proofs.Common.{arith}
use Rattle.kt_walk.proofs.in_transit.cut_marks.Goals as goal

pub returns-clause-past : goal.returns-clause-past
returns-clause-past c = λ k l. c.loop-slot.invariant.past k (omega (arith, l, c.loop-slot.auto.slot-end c.requires.order))
