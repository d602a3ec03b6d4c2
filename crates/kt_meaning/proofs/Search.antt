-- Searches for the least number that passes a test.
use Rattle.std.proofs.Common.{◌≡◌, ℕ, zero, suc, ◌+◌, ◌≤◌, ◌<◌, Bool, true, false, Option, Some, None, refl, sym, ap, ◌∙◌, arith, inl, inr}
use Rattle.std.specs.Prelude.{find, if◌then◌else◌}
use Rattle.std.specs.List.{range_with_len}
use Rattle.std.proofs.lemmas.Bool.{cases_eq, cases_lt}
use Rattle.kt_meaning.proofs.Items.{some_same}

-- what is found is in the range, passes, and is the first that does
pub record IsLeastTo (test : ℕ → Bool) (bound m : ℕ) : Type 0 where
  pub low : 1 ≤ m
  pub high : m ≤ bound
  pub passes : test m ≡ true
  pub first : (j : ℕ) → 1 ≤ j → j < m → test j ≡ false

clash : false ≡ true → ⊥
clash e = cc

-- a search among n numbers from a on
none_from : (test : ℕ → Bool) (a n : ℕ) → find test (range_with_len a n) ≡ None → (j : ℕ) → a ≤ j → j < a + n → test j ≡ false
none_from test a zero e j low high = absurd (omega (arith, low, high))
none_from test a (suc n) e j low high = from (test a) refl e (λ f l. none_from test (a + 1) n f j l (omega (arith, high)))
  where
    from : (b : Bool) → test a ≡ b → (if b then Some a else find test (range_with_len (a + 1) n)) ≡ None → (find test (range_with_len (a + 1) n) ≡ None → a + 1 ≤ j → test j ≡ false) → test j ≡ false
    from true t e rest = absurd (cc)
    from false t e rest = elim (cases_eq j a) [
      | inl same ↦ ap test same ∙ t
      | inr other ↦ rest e (omega (arith, low, other))
    ]

-- what is found there
record IsFoundFrom (test : ℕ → Bool) (a n m : ℕ) : Type 0 where
  low : a ≤ m
  high : m < a + n
  passes : test m ≡ true
  first : (j : ℕ) → a ≤ j → j < m → test j ≡ false

found_from : (test : ℕ → Bool) (a n m : ℕ) → find test (range_with_len a n) ≡ Some m → IsFoundFrom test a n m
found_from test a zero m e = absurd (cc)
found_from test a (suc n) m e = from (test a) refl e (λ f. found_from test (a + 1) n m f)
  where
    from : (b : Bool) → test a ≡ b → (if b then Some a else find test (range_with_len (a + 1) n)) ≡ Some m → (find test (range_with_len (a + 1) n) ≡ Some m → IsFoundFrom test (a + 1) n m) → IsFoundFrom test a (suc n) m
    from true t e rest =
        let same : a ≡ m = some_same e in
        record {
          low = omega (arith, same);
          high = omega (arith, same);
          passes = sym (ap test same) ∙ t;
          first = λ j above below. absurd (omega (arith, above, below, same));
        }
    from false t e rest =
        let g = rest e in
        let low = g.low in
        let high = g.high in
        record {
          low = omega (arith, low);
          high = omega (arith, high);
          passes = g.passes;
          first = λ j above below. elim (cases_eq j a) [
            | inl same ↦ ap test same ∙ t
            | inr other ↦ g.first j (omega (arith, above, other)) below
          ];
        }

pub least_none : (test : ℕ → Bool) (bound : ℕ) → find test (range_with_len 1 bound) ≡ None → (j : ℕ) → 1 ≤ j → j ≤ bound → test j ≡ false
least_none test bound e j low high = none_from test 1 bound e j low (omega (arith, high))

pub least_is : (test : ℕ → Bool) (bound m : ℕ) → find test (range_with_len 1 bound) ≡ Some m → IsLeastTo test bound m
least_is test bound m e =
    let g = found_from test 1 bound m e in
    let high = g.high in
    record { low = g.low; high = omega (arith, high); passes = g.passes; first = g.first }

pub least_there : (test : ℕ → Bool) (bound j : ℕ) → 1 ≤ j → j ≤ bound → test j ≡ true → (m : ℕ) × (find test (range_with_len 1 bound) ≡ Some m)
least_there test bound j low high t = from (find test (range_with_len 1 bound)) refl
  where
    from : (o : Option ℕ) → find test (range_with_len 1 bound) ≡ o → (m : ℕ) × (find test (range_with_len 1 bound) ≡ Some m)
    from None f = absurd (clash (sym (least_none test bound f j low high) ∙ t))
    from (Some m) f = (m, f)

-- the least number that passes is what is found
pub least_found : (test : ℕ → Bool) (bound m : ℕ) → IsLeastTo test bound m → find test (range_with_len 1 bound) ≡ Some m
least_found test bound m g = from (find test (range_with_len 1 bound)) refl
  where
    from : (o : Option ℕ) → find test (range_with_len 1 bound) ≡ o → find test (range_with_len 1 bound) ≡ Some m
    from None f = absurd (clash (sym (least_none test bound f m g.low g.high) ∙ g.passes))
    from (Some x) f =
        let h = least_is test bound x f in
        f ∙ ap Some (one h)
      where
        one : IsLeastTo test bound x → x ≡ m
        one h = elim (cases_eq x m) [
          | inl same ↦ same
          | inr other ↦ absurd (apart h other)
        ]
          where
            apart : IsLeastTo test bound x → (x ≡ m → ⊥) → ⊥
            apart h other = elim (cases_lt x m) [
              | inl l ↦ clash (sym (g.first x h.low l) ∙ h.passes)
              | inr l ↦ clash (sym (h.first m g.low (omega (arith, l, other))) ∙ g.passes)
            ]
