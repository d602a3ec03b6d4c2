use Rattle.std.proofs.Common.{◌≡◌, ◌+◌, ◌*◌}
use Rattle.kt_fifo.specs.Counts.{sum_first}
use Rattle.kt_fifo.proofs.counts.Counts.eight_at.Given as goal

abbrev pub invariant-loop-eight : goal.invariant-loop-eight
invariant-loop-eight l = sum_first l.self-inside.each (8 * l.eight) + l.left ≡ l.place
