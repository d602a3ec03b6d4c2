-- Sets that are filled by rising number.
use Rattle.std.proofs.Common.{◌≡◌, ◌≢◌, ◌∙◌, ◌+◌, ◌<◌, ◌≤◌, ℕ, zero, suc, Bool, true, false, refl, sym, ap, arith, inl, inr}
use Rattle.std.specs.Prelude.{◌||◌}
use Rattle.std.specs.List.{list_any, range_with_len}
use Rattle.std.proofs.lemmas.Bool.{cases_eq}
use Rattle.kt_base.specs.Sets.{has}
use Rattle.kt_meaning.specs.Past.{Past}
use Rattle.kt_meaning.specs.Legal.{is_in}
use Rattle.kt_explain.specs.Judged.{is_anyone_in}

-- a set has of the processes below a limit those that pass a test, and none from there on
pub record IsFilledTo (test : ℕ → Bool) (n set : ℕ) : Type 0 where
  pub known : (p : ℕ) → p < n → has set p ≡ test p
  pub rest : (p : ℕ) → n ≤ p → has set p ≡ false

pub filled_more : (test : ℕ → Bool) (n set after p : ℕ) (b : Bool) → p ≡ n → b ≡ test p → has after p ≡ (b || has set p) → ((q : ℕ) → q ≢ p → has after q ≡ has set q)
    → IsFilledTo test n set → IsFilledTo test (n + 1) after
filled_more test n set after p b at is itself others h = record {
  known = λ q low. elim (cases_eq q p) [
    | inl same ↦ ap (has after) same ∙ (itself ∙ (ap (λ (x : Bool). b || x) (h.rest p (omega (arith, at))) ∙ (or_false b ∙ (is ∙ ap test (sym same)))))
    | inr other ↦ others q other ∙ h.known q (omega (arith, low, other, at))
  ];
  rest = λ q high. others q (λ same. omega (arith, high, same, at)) ∙ h.rest q (omega (arith, high));
}
  where
    or_false : (x : Bool) → (x || false) ≡ x
    or_false true = refl
    or_false false = refl

-- a number of a range that passes
any_of_range : (test : ℕ → Bool) (a n p : ℕ) → a ≤ p → p < a + n → test p ≡ true → list_any test (range_with_len a n) ≡ true
any_of_range test a zero p low high passes = absurd (omega (arith, low, high))
any_of_range test a (suc n) p low high passes = elim (cases_eq p a) [
  | inl same ↦ ap (λ (x : Bool). x || list_any test (range_with_len (a + 1) n)) (ap test (sym same) ∙ passes)
  | inr other ↦ later (test a) (any_of_range test (a + 1) n p (omega (arith, low, other)) (omega (arith, high)) passes)
]
  where
    later : (x : Bool) → list_any test (range_with_len (a + 1) n) ≡ true → (x || list_any test (range_with_len (a + 1) n)) ≡ true
    later true e = refl
    later false e = e

-- a range of which none passes
none_of_range : (test : ℕ → Bool) (a n : ℕ) → ((p : ℕ) → p < a + n → test p ≡ false) → list_any test (range_with_len a n) ≡ false
none_of_range test a zero none = refl
none_of_range test a (suc n) none =
    ap (λ (x : Bool). x || list_any test (range_with_len (a + 1) n)) (none a (omega arith)) ∙ none_of_range test (a + 1) n (λ p low. none p (omega (arith, low)))

pub someone_in : (s : Past) (k p : ℕ) → p < 64 → is_in s p k ≡ true → is_anyone_in s k ≡ true
unfolding is_anyone_in
someone_in s k p low e = any_of_range (λ q. is_in s q k) 0 64 p (omega arith) (omega (arith, low)) e

pub none_is_in : (s : Past) (k : ℕ) → ((p : ℕ) → p < 64 → is_in s p k ≡ false) → is_anyone_in s k ≡ false
unfolding is_anyone_in
none_is_in s k none = none_of_range (λ q. is_in s q k) 0 64 (λ p low. none p (omega (arith, low)))
