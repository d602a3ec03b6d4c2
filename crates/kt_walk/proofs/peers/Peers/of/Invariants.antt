use Rattle.kt_walk.proofs.PeersFacts.{AreOfMembers}
use Rattle.kt_walk.proofs.peers.Peers.of.Given as goal

abbrev pub invariant-loop-number : goal.invariant-loop-number
invariant-loop-number l = AreOfMembers l.initial.senders l.senders l.members l.number
