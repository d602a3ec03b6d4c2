use Rattle.std.proofs.Common.{ℕ}
use Rattle.kt_fifo.proofs.Counting.{LeftOf}
use Rattle.kt_fifo.proofs.counts.member_at.Given as goal

abbrev pub invariant-loop-passed : goal.invariant-loop-passed
invariant-loop-passed l = (b : ℕ) × LeftOf l.fn.set l.left b l._passed
