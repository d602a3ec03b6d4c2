use Rattle.std.proofs.Common.{◌≡◌, ℕ, ◌-◌, ◌^◌, ◌≤◌}
use Rattle.kt_walk.proofs.counts.power_of_two.Given as goal

abbrev pub invariant-loop-power : goal.invariant-loop-power
invariant-loop-power l = (k : ℕ) × (l.power ≡ 2 ^ k) × (k ≤ 30)

abbrev pub decreases-loop-power : goal.decreases-loop-power
decreases-loop-power l = l.wanted - l.power
