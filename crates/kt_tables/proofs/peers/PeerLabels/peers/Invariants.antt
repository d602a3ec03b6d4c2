use Rattle.kt_tables.proofs.Cohorts.{Gathers}
use Rattle.kt_tables.proofs.peers.PeerLabels.peers.Given as goal

abbrev pub invariant-loop-pair : goal.invariant-loop-pair
invariant-loop-pair l = Gathers l.self.pairs l.pair-index l.peers
