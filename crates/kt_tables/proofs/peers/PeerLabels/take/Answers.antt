use Rattle.std.proofs.Common.{arith, ap}
use Rattle.std.specs.Prelude.{vec_capacity}
use Rattle.kt_tables.specs.Peers.{LabelTable}
use Rattle.kt_tables.proofs.Pairs.{empty_table, empty_labels}
use Rattle.kt_tables.proofs.peers.PeerLabels.take.Goals as goal

pub invariant_of-other : goal.invariant_of-other
invariant_of-other c =
    let n = ap (λ (t : LabelTable). t.peers) c.self.view_is in
    let m = ap (λ (t : LabelTable). t.peers) c.other.view_is in
    let room = ap vec_capacity c.swap.ensures.y_after in
    (empty_table _ _ c.clear.ensures.items, omega (arith, c.clear.ensures.capacity, room, c.self.invariant.1, n, m, c.requires))

pub returns-clause-other_labels : goal.returns-clause-other_labels
returns-clause-other_labels c = empty_labels _ c.clear.ensures.items
