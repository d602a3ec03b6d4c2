use Rattle.kt_tables.proofs.TableTests.{IsAsRest}
use Rattle.kt_tables.proofs.peers.is_table.Given as goal

abbrev pub invariant-loop-pair : goal.invariant-loop-pair
invariant-loop-pair l = IsAsRest l.low l.peers l.pair-index l.pairs
