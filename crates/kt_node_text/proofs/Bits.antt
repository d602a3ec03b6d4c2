-- A set that is made of the bits of another one, from the lowest on.
use Rattle.std.proofs.Common.{◌≡◌, ◌≢◌, ◌∙◌, ◌+◌, ◌<◌, ◌≤◌, ◌==◌, ℕ, Bool, true, false, refl, sym, ap, arith, inl, inr}
use Rattle.std.proofs.lemmas.Bool.{cases_lt, cases_eq}
use Rattle.std.proofs.lemmas.Bool.Decides.{nat_tests}
use Rattle.std.proofs.lemmas.Nat.Bits.{bit_at-zero}
use Rattle.std.specs.Int.{bit_at}
use Rattle.kt_base.specs.Sets.{has}

-- below n it has what the set has, and from there on nothing
pub record HasBelow (set bits n : ℕ) : Type 0 where
  pub below : (q : ℕ) → q < n → has bits q ≡ has set q
  pub above : (q : ℕ) → n ≤ q → has bits q ≡ false

not_true : (b : Bool) → (b ≡ true → ⊥) → b ≡ false
not_true true h = absurd (h refl)
not_true false h = refl

is_clear : (b : ℕ) → b ≡ 0 → (b == 1) ≡ false
is_clear b e = grind (arith, nat_tests)

pub has_none : (q : ℕ) → has 0 q ≡ false
has_none q = is_clear (bit_at 0 q) (bit_at-zero q)

pub below_none : (set bits : ℕ) → ((q : ℕ) → has bits q ≡ false) → HasBelow set bits 0
below_none set bits h = record { below = λ q b. absurd (omega arith); above = λ q b. h q }

pub below_more : (set bits new n : ℕ) → HasBelow set bits n → has set n ≡ true → has new n ≡ true → ((q : ℕ) → q ≢ n → has new q ≡ has bits q) →
    HasBelow set new (n + 1)
below_more set bits new n h e f others = record {
  below = λ q b. elim (cases_eq q n) [
    | inl same ↦ ap (has new) same ∙ (f ∙ (sym e ∙ ap (has set) (sym same)))
    | inr other ↦ others q other ∙ h.below q (omega arith)
  ];
  above = λ q b. others q (omega arith) ∙ h.above q (omega arith);
}

pub below_same : (set bits n : ℕ) → HasBelow set bits n → has set n ≡ false → HasBelow set bits (n + 1)
below_same set bits n h e = record {
  below = λ q b. elim (cases_eq q n) [
    | inl same ↦ h.above q (omega arith) ∙ (sym e ∙ ap (has set) (sym same))
    | inr other ↦ h.below q (omega arith)
  ];
  above = λ q b. h.above q (omega arith);
}

pub below_all : (set bits n : ℕ) → HasBelow set bits n → 64 ≤ n → ((q : ℕ) → has set q ≡ true → q < 64) → (q : ℕ) → has bits q ≡ has set q
below_all set bits n h b within q = elim (cases_lt q n) [
  | inl less ↦ h.below q less
  | inr more ↦ h.above q more ∙ sym (not_true (has set q) (λ e. omega (arith, within q e)))
]
