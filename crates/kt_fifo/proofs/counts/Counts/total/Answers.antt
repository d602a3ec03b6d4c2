use Rattle.std.proofs.Common.{◌*◌, arith, sym}
use Rattle.kt_fifo.proofs.Counting.{sum_none, sum_few}
use Rattle.kt_fifo.proofs.counts.Counts.total.Goals as goal

pub loop-eight-init : goal.loop-eight-init
loop-eight-init c = sym (sum_none c.self.inside.each)

pub overflow_add-total : goal.overflow_add-total
overflow_add-total c =
    let few = sum_few c.self.inside.each c.self.invariant.few (8 * c.loop-eight.eight) in
    let is = c.loop-eight.invariant in
    omega (arith, few, is)
