use Rattle.std.proofs.Common.{◌≡◌, ◌≤◌, ◌+◌, length}
use Rattle.std.specs.Prelude.{vec_capacity}
use Rattle.kt_tables.proofs.Merging.{Merging}
use Rattle.kt_tables.proofs.peers.PeerLabels.set_to_later.Given as goal

abbrev pub invariant-loop-peer : goal.invariant-loop-peer
invariant-loop-peer l = record {
  merging : Merging l.first-2.pairs l.second-2.pairs l.self-inside.peers l.self-inside.pairs.items l.first l.second;
  peers : l.self-inside.peers ≡ l.initial.self-inside.peers;
  room : l.self-inside.peers ≤ vec_capacity l.self-inside.pairs;
}

abbrev pub decreases-loop-peer : goal.decreases-loop-peer
decreases-loop-peer l = length l.first + length l.second
