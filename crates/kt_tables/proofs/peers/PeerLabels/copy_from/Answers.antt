use Rattle.std.proofs.Common.{arith, ap}
use Rattle.kt_tables.specs.Peers.{LabelTable}
use Rattle.kt_tables.proofs.Pairs.{table_length}
use Rattle.kt_tables.proofs.peers.PeerLabels.copy_from.Goals as goal

pub unwrap-requires : goal.unwrap-requires
unwrap-requires c =
    let n = ap (λ (t : LabelTable). t.peers) c.self.view_is in
    let m = ap (λ (t : LabelTable). t.peers) c.other.view_is in
    c.extend_from_slice.ensures.succeeds (omega (arith, table_length _ _ _ c.other.invariant.0 (omega arith), c.self.invariant.1, c.clear.ensures.len, c.clear.ensures.capacity, c.deref.ensures.len, c.other.inside.pairs.ok.0, c.requires))
