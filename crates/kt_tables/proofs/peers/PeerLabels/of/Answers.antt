use Rattle.std.proofs.Common.{arith, rules}
use Rattle.kt_tables.specs.Peers.{IsTable}
use Rattle.kt_tables.proofs.Pairs.{table_length}
use Rattle.kt_tables.proofs.peers.PeerLabels.of.Goals as goal

pub unwrap-requires : goal.unwrap-requires
unwrap-requires c =
    let table : IsTable 0 c.args.peers c.args.pairs.now = search rules in
    let own = c.in_ok-own.ensures in
    c.extend_from_slice.ensures.succeeds (omega (arith, table_length _ _ _ table (omega arith), own.len, own.capacity))
