use Rattle.std.proofs.Common.{◌≡◌, ◌+◌}
use Rattle.kt_fifo.specs.Counts.{sum_first}
use Rattle.kt_fifo.proofs.counts.Counts.find.Given as goal

abbrev pub invariant-loop-number : goal.invariant-loop-number
invariant-loop-number l = sum_first l.self-inside.each l.number + l.left ≡ l.place
