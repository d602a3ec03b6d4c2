use Rattle.std.proofs.Common.{◌≡◌, ◌++◌, length}
use Rattle.kt_node_text.specs.Form.{bytes_of}
use Rattle.kt_node_text.proofs.bytes.numbers_of.Given as goal

abbrev pub invariant-loop-rest : goal.invariant-loop-rest
invariant-loop-rest l = l.bytes ≡ bytes_of l.numbers.items ++ l.rest

abbrev pub decreases-loop-rest : goal.decreases-loop-rest
decreases-loop-rest l = length l.rest
