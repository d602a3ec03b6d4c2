use Rattle.kt_tables.proofs.TableTests.{AreAsRest}
use Rattle.kt_tables.proofs.peers.are_at_most.Given as goal

abbrev pub invariant-loop-pair : goal.invariant-loop-pair
invariant-loop-pair l = AreAsRest l.most l.pair-index l.pairs
