-- How many words of a generator have which remainder.
use Rattle.std.proofs.Common.{◌≡◌, ◌<◌, ◌+◌, ◌-◌, ◌*◌, ◌∙◌, ◌++◌, ℕ, zero, suc, Bool, true, false, List, [], ◌∷◌, refl, ap, subst, arith, inl, inr}
use Rattle.std.specs.Prelude.{◌%◌, ◌/◌, ◌^◌, ◌==◌, nat_lt, cond}
use Rattle.std.specs.List.{range_with_len, sum_by}
use Rattle.std.proofs.Math.Nat.{div-add-mod, mul_comm, suc-mul}
use Rattle.std.proofs.lemmas.Nat.{mod-mul-add}
use Rattle.std.proofs.lemmas.Bool.{cases_lt, cases_eq}
use Rattle.std.proofs.lemmas.Bool.Decides.{nat_tests}
use Rattle.std.proofs.lemmas.List.Sums.{sum_by_push}
use Rattle.kt_run.specs.Orders.{even_part, words_with}

-- one number more
counting_more : (a n j : ℕ) → a + n ≡ j → range_with_len a (n + 1) ≡ range_with_len a n ++ j ∷ []
counting_more a n j e = let on : n + 1 ≡ suc n = omega arith in ap (range_with_len a) on ∙ last a n j e
  where
    last : (a n j : ℕ) → a + n ≡ j → range_with_len a (suc n) ≡ range_with_len a n ++ j ∷ []
    last a zero j e = let same : a ≡ j = omega (arith, e) in ap (λ (k : ℕ). k ∷ []) same
    last a (suc n) j e = ap (λ (l : List ℕ). a ∷ l) (last (a + 1) n j (omega (arith, e)))

-- one more word
more : (bound n r : ℕ) → words_with (bound + 1) n r ≡ words_with bound n r + cond (bound % n == r) 1 0
more bound n r =
    ap (sum_by (λ (w : ℕ). cond (w % n == r) 1 0)) (counting_more 0 bound bound (omega arith))
    ∙ sum_by_push (λ (w : ℕ). cond (w % n == r) 1 0) (range_with_len 0 bound) bound

-- one more remainder
next : (r s : ℕ) → cond (nat_lt r s) 1 0 + cond (s == r) 1 0 ≡ cond (nat_lt r (suc s)) 1 0
next r s = elim (cases_eq s r) [
  | inl e ↦ subst (λ (k : ℕ). cond (nat_lt k s) 1 0 + cond (s == k) 1 0 ≡ cond (nat_lt k (suc s)) 1 0) e (itself s)
  | inr n ↦ elim (cases_lt r s) [
    | inl l ↦ (
        let low : nat_lt r s ≡ true = grind (arith, nat_tests, l) in
        let other : (s == r) ≡ false = grind (arith, nat_tests, n) in
        let high : nat_lt r (suc s) ≡ true = grind (arith, nat_tests, l) in
        rw (low, other, high) refl)
    | inr g ↦ (
        let low : nat_lt r s ≡ false = grind (arith, nat_tests, g) in
        let other : (s == r) ≡ false = grind (arith, nat_tests, n) in
        let over : s < r = omega (arith, n, g) in
        let high : nat_lt r (suc s) ≡ false = grind (arith, nat_tests, over) in
        rw (low, other, high) refl)
  ]
]
  where
    itself : (s : ℕ) → cond (nat_lt s s) 1 0 + cond (s == s) 1 0 ≡ cond (nat_lt s (suc s)) 1 0
    itself s =
        let low : nat_lt s s ≡ false = grind (arith, nat_tests) in
        let same : (s == s) ≡ true = grind (arith, nat_tests) in
        let high : nat_lt s (suc s) ≡ true = grind (arith, nat_tests) in
        rw (low, same, high) refl

-- of so many whole rounds of remainders and so many words more
counted : (n r : ℕ) → r < n → (q s : ℕ) → s < n → words_with (q * n + s) n r ≡ q + cond (nat_lt r s) 1 0
counted n r l zero zero m =
    let none : 0 * n + 0 ≡ 0 = omega arith in
    let never : nat_lt r 0 ≡ false = grind (arith, nat_tests) in
    ap (λ (b : ℕ). words_with b n r) none ∙ rw never refl
counted n r l q (suc s) m =
    let before = counted n r l q s (omega (arith, m)) in
    let on : q * n + suc s ≡ (q * n + s) + 1 = omega arith in
    let is : (q * n + s) % n ≡ s = mod-mul-add q n s (omega (arith, m)) in
    ap (λ (b : ℕ). words_with b n r) on
    ∙ (more (q * n + s) n r
    ∙ (ap (λ (k : ℕ). words_with (q * n + s) n r + cond (k == r) 1 0) is
    ∙ (ap (λ (k : ℕ). k + cond (s == r) 1 0) before
    ∙ (let more_is = next r s in omega (arith, more_is)))))
counted zero r l (suc q) zero m = absurd (omega (arith, l))
counted (suc k) r l (suc q) zero m =
    let n = suc k in
    let before = counted n r l q k (omega arith) in
    let on : suc q * n + 0 ≡ (q * n + k) + 1 = let round = suc-mul q n in omega (arith, round) in
    let is : (q * n + k) % n ≡ k = mod-mul-add q n k (omega arith) in
    let all : nat_lt r (suc k) ≡ true = grind (arith, nat_tests, l) in
    let never : nat_lt r 0 ≡ false = grind (arith, nat_tests) in
    ap (λ (b : ℕ). words_with b n r) on
    ∙ (more (q * n + k) n r
    ∙ (ap (λ (w : ℕ). words_with (q * n + k) n r + cond (w == r) 1 0) is
    ∙ (ap (λ (w : ℕ). w + cond (k == r) 1 0) before
    ∙ (let more_is = next r k ∙ ap (λ (b : Bool). cond b 1 0) all in rw never (omega (arith, more_is))))))

-- the even part is of whole rounds
whole : (most n : ℕ) → most - (most % n) ≡ (most / n) * n + 0
whole most n =
    let parts = div-add-mod most n in
    let turned = mul_comm n (most / n) in
    omega (arith, parts, turned)

pub even : (n r : ℕ) → r < n → words_with (even_part n) n r ≡ (2 ^ 64 - 1) / n
even n r l =
    let never : nat_lt r 0 ≡ false = grind (arith, nat_tests) in
    ap (λ (b : ℕ). words_with b n r) (whole (2 ^ 64 - 1) n)
    ∙ (counted n r l ((2 ^ 64 - 1) / n) 0 (omega (arith, l)) ∙ rw never (omega arith))
