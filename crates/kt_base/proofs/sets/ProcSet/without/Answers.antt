use Rattle.std.proofs.Common.{◌≡◌, ◌<◌, ◌≤◌, ◌^◌, ℕ, bit_and, inl, inr, refl, arith, w64}
use Rattle.std.proofs.lemmas.Bool.{cases_lt}
use Rattle.std.proofs.lemmas.Nat.Bits.{bit_at_and, bit_at_above, bit_at_clear_same, bit_at_clear_other}
use Rattle.std.specs.Int.{bit_at}
use Rattle.kt_base.proofs.sets.ProcSet.without.Goals as goal

-- what two words have in common has no bit past the first word
and_above : (a b q : ℕ) → a < 2 ^ 64 → 64 ≤ q → bit_at (bit_and a b) q ≡ 0
and_above a b q small above = omega (arith, bit_at_and a b q, bit_at_above a 64 q small above)

pub returns-clause-removed : goal.returns-clause-removed
returns-clause-removed c = rw (← c.get.ensures.value, bit_at_clear_same w64 c.self.inside.bits c.get.result c.get.ensures.in_range) refl

pub returns-clause-others : goal.returns-clause-others
returns-clause-others c q other = elim (cases_lt q 64) [
  | inl below ↦
      rw (bit_at_clear_other w64 c.self.inside.bits c.get.result c.get.ensures.in_range q below (rw (← c.get.ensures.value) at other), ← c.self.view_is) refl
  | inr above ↦
      let none = bit_at_above c.self.inside.bits 64 q c.self.invariant above in
      rw (and_above c.self.inside.bits _ q c.self.invariant above, ← c.self.view_is, none) refl
]
