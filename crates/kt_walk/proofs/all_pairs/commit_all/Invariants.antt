use Rattle.std.proofs.Common.{◌≡◌, ℕ, ◌≤◌, ◌-◌, length}
use Rattle.kt_walk.specs.Pairs.{AreInUse, IsPairCommitted}
use Rattle.kt_walk.specs.Peers.{is_in}
use Rattle.kt_walk.proofs.UsedFacts.{AreSwept}
use Rattle.kt_walk.proofs.all_pairs.commit_all.Given as goal

abbrev pub invariant-loop-place : goal.invariant-loop-place
invariant-loop-place l = record {
  count : length l.pairs ≡ length l.initial.pairs;
  low : l.next ≤ 4096;
  swept : AreSwept (IsPairCommitted l.kind l.members l.permanent) l.initial.pairs l.pairs l.next;
  in_use : AreInUse l.pairs l.used;
  ahead : (i : ℕ) → l.next ≤ i → is_in l.used i ≡ is_in l.initial.used i;
}

abbrev pub decreases-loop-place : goal.decreases-loop-place
decreases-loop-place l = 4096 - l.next
