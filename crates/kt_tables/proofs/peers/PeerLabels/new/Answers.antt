use Rattle.kt_tables.proofs.Pairs.{empty_table, empty_labels}
use Rattle.kt_tables.proofs.peers.PeerLabels.new.Goals as goal

pub invariant_of-result : goal.invariant_of-result
invariant_of-result c = (empty_table _ _ c.in_ok-with_capacity.ensures.items, c.in_ok-with_capacity.ensures.capacity)

pub returns-clause-empty : goal.returns-clause-empty
returns-clause-empty c = empty_labels _ c.in_ok-with_capacity.ensures.items
