use Rattle.kt_walk.proofs.PeersFacts.{AreBits}
use Rattle.kt_walk.proofs.peers.bits_of.Given as goal

abbrev pub invariant-loop-number : goal.invariant-loop-number
invariant-loop-number l = AreBits l.bits l.members l.number
