use Rattle.kt_node_text.proofs.Bits.{HasBelow}
use Rattle.kt_node_text.proofs.sets.set_of.Given as goal

abbrev pub invariant-loop-number : goal.invariant-loop-number
invariant-loop-number l = HasBelow l.bits l.set l.number
