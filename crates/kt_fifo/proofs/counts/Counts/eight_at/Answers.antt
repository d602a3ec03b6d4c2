use Rattle.std.proofs.Common.{arith}
use Rattle.kt_fifo.proofs.Counting.{sum_none}
use Rattle.kt_fifo.proofs.counts.Counts.eight_at.Goals as goal

pub loop-eight-init : goal.loop-eight-init
loop-eight-init c = let none = sum_none c.self.inside.each in omega (arith, none)
