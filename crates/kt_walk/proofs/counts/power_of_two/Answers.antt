use Rattle.std.proofs.Common.{◌≡◌, ℕ, suc, ◌^◌, ◌<◌, ◌≤◌, arith, inl, inr}
use Rattle.std.proofs.lemmas.Bool.{cases_lt}
use Rattle.std.proofs.Math.Nat.{pow-suc}
use Rattle.std.proofs.Math.Pow.{pow_mono}
use Rattle.kt_walk.proofs.counts.power_of_two.Goals as goal

smaller : (k n : ℕ) → n ≡ 2 ^ k → n < 2 ^ 30 → k < 30
smaller k n e lt = elim (cases_lt k 30) [
  | inl low ↦ low
  | inr high ↦ absurd (omega (arith, e, lt, pow_mono {i = 30} {j = k} high))
]

small : (k n : ℕ) → n ≡ 2 ^ k → k ≤ 30 → n ≤ 2 ^ 30
small k n e le = omega (arith, e, pow_mono {i = k} {j = 30} le)

pub overflow_mul-power : goal.overflow_mul-power
overflow_mul-power c = omega (arith, c.loop-power-test.true, c.requires)

pub loop-power-preserved : goal.loop-power-preserved
loop-power-preserved c =
    let k = c.loop-power.invariant.0 in
    (suc k, omega (arith, c.loop-power.invariant.1, pow-suc 2 k), omega (arith, smaller k c.loop-power.power c.loop-power.invariant.1 (omega (arith, c.loop-power-test.true, c.requires))))

pub returns-clause-small : goal.returns-clause-small
returns-clause-small c = small c.loop-power.invariant.0 c.loop-power.power c.loop-power.invariant.1 c.loop-power.invariant.2
