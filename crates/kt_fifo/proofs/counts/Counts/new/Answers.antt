use Rattle.std.proofs.Common.{replicate}
use Rattle.kt_fifo.proofs.Counting.{sums_none, zeros}
use Rattle.kt_fifo.proofs.counts.Counts.new.Goals as goal

pub invariant_of-result : goal.invariant_of-result
invariant_of-result c = sums_none (replicate 64 0) (replicate 8 0) (zeros 64) (zeros 8)

pub returns : goal.returns
returns c = zeros 64
