use Rattle.std.proofs.Common.{◌≡◌, length, map, take}
use Rattle.std.specs.Prelude.{vec_capacity}
use Rattle.kt_tables.specs.Peers.{find_label}
use Rattle.kt_tables.proofs.Cohorts.{Walking, beside}
use Rattle.kt_tables.proofs.peers.PeerLabels.cohort.Given as goal

abbrev pub invariant-loop-pair : goal.invariant-loop-pair
invariant-loop-pair l = record {
  walking : Walking l.self.pairs l.labels.pairs l.labels.peers l.pair-index l.rest;
  items : l.cohort.items ≡ map (beside (find_label l.labels.pairs)) (take l.pair-index l.self.pairs);
  room : vec_capacity l.cohort ≡ length l.self.pairs;
}
