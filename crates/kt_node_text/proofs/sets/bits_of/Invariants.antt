use Rattle.kt_node_text.proofs.Bits.{HasBelow}
use Rattle.kt_node_text.proofs.sets.bits_of.Given as goal

abbrev pub invariant-loop-number : goal.invariant-loop-number
invariant-loop-number l = HasBelow l.set l.bits l.number
