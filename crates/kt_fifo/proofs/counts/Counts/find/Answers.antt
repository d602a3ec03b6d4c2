use Rattle.std.proofs.Common.{arith}
use Rattle.kt_fifo.proofs.Counting.{sum_next}
use Rattle.kt_fifo.proofs.counts.Counts.find.Goals as goal

pub loop-number-preserved : goal.loop-number-preserved
loop-number-preserved c =
    let more = sum_next c.self.inside.each c.loop-number.number in
    let is = c.loop-number.invariant in
    let count = c.from-count.ensures in
    let past = c.if-left-count.false in
    omega (arith, more, is, count, past)
