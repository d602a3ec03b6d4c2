use Rattle.std.proofs.Common.{arith}
use Rattle.kt_tables.proofs.Pairs.{empty_table, empty_labels}
use Rattle.kt_tables.proofs.peers.PeerLabels.clear.Goals as goal

pub invariant_of-self : goal.invariant_of-self
invariant_of-self c = (empty_table _ _ c.clear.ensures.items, omega (arith, c.clear.ensures.capacity, c.self.invariant.1))

pub returns-clause-labels : goal.returns-clause-labels
returns-clause-labels c = empty_labels _ c.clear.ensures.items
