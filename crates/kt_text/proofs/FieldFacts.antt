-- Numbers as they are spelled, and where a number fits its type.
use Rattle.std.proofs.Common.{◌≡◌, ◌≢◌, ◌∙◌, ◌<◌, ◌≤◌, ◌^◌, ℕ, List, [], ◌∷◌, length, refl, arith, Option, Some, None, Result, Ok, Err, IfNone, sym, inl, inr}
use Rattle.std.specs.Result.{OkIff, result_ok}
use Rattle.csv.specs.Records.{field_at}
use Rattle.std.specs.Fmt.{decimal}
use Rattle.std.proofs.lemmas.Bool.{cases_lt}
use Rattle.std.proofs.lemmas.Fmt.{decimal_injective}

-- a text that spells no number of a kind, where there is nothing
pub absent : {T : Type 0} (Is : ℕ → Type 0) (t : List ℕ) (o : Option T) → ((k : ℕ) → Is k → t ≡ decimal k → ⊥) → IfNone o ((k : ℕ) → Is k → t ≢ decimal k)
absent Is t None h = h
absent Is t (Some x) h = tt

-- a text spells one number
pub one_number : (n k : ℕ) (t : List ℕ) → n < 2 ^ 64 → k < 2 ^ 64 → t ≡ decimal n → t ≡ decimal k → n ≡ k
one_number n k t a b p q = decimal_injective n k a b (sym p ∙ q)

-- a number that does not fit is too great
pub too_great : {E : Type 0} (n w : ℕ) (r : Result ℕ E) → OkIff r (n < w) n → result_ok r ≡ None → w ≤ n
too_great n w (Ok x) f e = cc e
too_great n w (Err x) f e = elim (cases_lt n w) [ inl less ↦ absurd (f less) | inr more ↦ more ]

-- one that fits stays the same
pub same_number : {E : Type 0} (n w x : ℕ) (r : Result ℕ E) → OkIff r (n < w) n → result_ok r ≡ Some x → x ≡ n
same_number n w x (Ok y) f e = let same : y ≡ x = cc e in sym same ∙ f.1
same_number n w x (Err y) f e = cc e

-- a list of four fields, from what is at its places
pub four_of : (fs : List (List ℕ)) (a b c d : List ℕ) → length fs ≡ 4 → Some a ≡ field_at fs 0 → Some b ≡ field_at fs 1 → Some c ≡ field_at fs 2 → Some d ≡ field_at fs 3 → fs ≡ a ∷ b ∷ c ∷ d ∷ []
unfolding field_at
four_of [] a b c d n p q r s = absurd (omega (arith, n))
four_of (x ∷ []) a b c d n p q r s = absurd (omega (arith, n))
four_of (x ∷ y ∷ []) a b c d n p q r s = absurd (omega (arith, n))
four_of (x ∷ y ∷ z ∷ []) a b c d n p q r s = absurd (omega (arith, n))
four_of (x ∷ y ∷ z ∷ w ∷ []) a b c d n p q r s = cc (p, q, r, s)
four_of (x ∷ y ∷ z ∷ w ∷ v ∷ rest) a b c d n p q r s = absurd (omega (arith, n))

-- each of four places has a field
pub four_full : (fs : List (List ℕ)) → length fs ≡ 4 → (field_at fs 0 ≢ None) × (field_at fs 1 ≢ None) × (field_at fs 2 ≢ None) × (field_at fs 3 ≢ None)
unfolding field_at
four_full [] n = absurd (omega (arith, n))
four_full (x ∷ []) n = absurd (omega (arith, n))
four_full (x ∷ y ∷ []) n = absurd (omega (arith, n))
four_full (x ∷ y ∷ z ∷ []) n = absurd (omega (arith, n))
four_full (x ∷ y ∷ z ∷ w ∷ rest) n = ((λ e. cc e), (λ e. cc e), (λ e. cc e), (λ e. cc e))

-- a list with no first field is empty
pub none_first : (fs : List (List ℕ)) → field_at fs 0 ≡ None → fs ≡ []
unfolding field_at
none_first [] e = refl
none_first (x ∷ rest) e = cc e

-- a list with a first field begins with it
pub some_first : (fs : List (List ℕ)) (a : List ℕ) → Some a ≡ field_at fs 0 → (rest : List (List ℕ)) × (fs ≡ a ∷ rest)
unfolding field_at
some_first [] a e = cc e
some_first (x ∷ rest) a e = (rest, cc e)

-- the fields of a record with four or more
abbrev pub field_1 : List (List ℕ) → List ℕ
field_1 (w ∷ a ∷ b ∷ c ∷ rest) = w
field_1 _ = []

abbrev pub field_2 : List (List ℕ) → List ℕ
field_2 (w ∷ a ∷ b ∷ c ∷ rest) = a
field_2 _ = []

abbrev pub field_3 : List (List ℕ) → List ℕ
field_3 (w ∷ a ∷ b ∷ c ∷ rest) = b
field_3 _ = []

abbrev pub field_4 : List (List ℕ) → List ℕ
field_4 (w ∷ a ∷ b ∷ c ∷ rest) = c
field_4 _ = []

-- the records of a text
abbrev pub Records : Type 0
Records = List (List (List ℕ))

-- the first record of a text and the others
pub first_and_rest : (x y : List (List ℕ)) (xs ys : Records) → x ∷ xs ≡ y ∷ ys → (x ≡ y) × (xs ≡ ys)
first_and_rest x y xs ys e = (cc e, cc e)
