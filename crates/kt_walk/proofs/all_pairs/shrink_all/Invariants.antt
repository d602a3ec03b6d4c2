use Rattle.std.proofs.Common.{◌≡◌, ◌-◌}
use Rattle.kt_walk.proofs.all_pairs.shrink_all.Given as goal

abbrev pub invariant-loop-place : goal.invariant-loop-place
invariant-loop-place l = record {
  same : l.pairs ≡ l.initial.pairs;
}

abbrev pub decreases-loop-place : goal.decreases-loop-place
decreases-loop-place l = 4096 - l.next
