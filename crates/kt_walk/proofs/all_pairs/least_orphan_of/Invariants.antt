use Rattle.std.proofs.Common.{◌≡◌, true, ℕ, ◌≤◌, ◌<◌, ◌-◌, Some, IfSome}
use Rattle.std.specs.List.{slice_get, slice_index}
use Rattle.kt_meaning.specs.Past.{Past}
use Rattle.kt_rules.specs.Orphans.{IsOrphanBetween, IsAtMost}
use Rattle.kt_rules.specs.Standing.{IsInOrder}
use Rattle.kt_walk.specs.Arrivals.{ShowsReceived}
use Rattle.kt_walk.specs.Pairs.{PairState}
use Rattle.kt_walk.specs.Peers.{is_in}
use Rattle.kt_walk.proofs.all_pairs.least_orphan_of.Given as goal

abbrev pub invariant-loop-place : goal.invariant-loop-place
invariant-loop-place l = record {
  orphan : IfSome l.least (λ msg. (k : ℕ) × (v : PairState) × (slice_get l.pairs k ≡ Some v) × (is_in l.places k ≡ true) × ((s : Past) → IsInOrder s → ShowsReceived v.received_from s → IsOrphanBetween s (slice_index l.cut) v.received_from.receiver v.received_from.sender msg));
  least : (k : ℕ) (v : PairState) (s : Past) (msg : ℕ) → k < l.next → is_in l.places k ≡ true → slice_get l.pairs k ≡ Some v → s.permanent v.received_from.sender ≤ slice_index l.cut v.received_from.sender → ShowsReceived v.received_from s → IsOrphanBetween s (slice_index l.cut) v.received_from.receiver v.received_from.sender msg → IsAtMost l.least msg;
}

abbrev pub decreases-loop-place : goal.decreases-loop-place
decreases-loop-place l = 4096 - l.next
