-- The fields of records with five.
use Rattle.std.proofs.Common.{◌≡◌, ◌≢◌, ℕ, List, [], ◌∷◌, length, arith, Some, None}
use Rattle.csv.specs.Records.{field_at}

-- a list of five fields, from what is at its places
pub five_of : (fs : List (List ℕ)) (a b c d e : List ℕ) → length fs ≡ 5 → Some a ≡ field_at fs 0 → Some b ≡ field_at fs 1 → Some c ≡ field_at fs 2 → Some d ≡ field_at fs 3 → Some e ≡ field_at fs 4
    → fs ≡ a ∷ b ∷ c ∷ d ∷ e ∷ []
unfolding field_at
five_of [] a b c d e n p q r s t = absurd (omega (arith, n))
five_of (x ∷ []) a b c d e n p q r s t = absurd (omega (arith, n))
five_of (x ∷ y ∷ []) a b c d e n p q r s t = absurd (omega (arith, n))
five_of (x ∷ y ∷ z ∷ []) a b c d e n p q r s t = absurd (omega (arith, n))
five_of (x ∷ y ∷ z ∷ w ∷ []) a b c d e n p q r s t = absurd (omega (arith, n))
five_of (x ∷ y ∷ z ∷ w ∷ v ∷ []) a b c d e n p q r s t = cc (p, q, r, s, t)
five_of (x ∷ y ∷ z ∷ w ∷ v ∷ u ∷ rest) a b c d e n p q r s t = absurd (omega (arith, n))

-- each of five places has a field
pub five_full : (fs : List (List ℕ)) → length fs ≡ 5 → (field_at fs 0 ≢ None) × (field_at fs 1 ≢ None) × (field_at fs 2 ≢ None) × (field_at fs 3 ≢ None) × (field_at fs 4 ≢ None)
unfolding field_at
five_full [] n = absurd (omega (arith, n))
five_full (x ∷ []) n = absurd (omega (arith, n))
five_full (x ∷ y ∷ []) n = absurd (omega (arith, n))
five_full (x ∷ y ∷ z ∷ []) n = absurd (omega (arith, n))
five_full (x ∷ y ∷ z ∷ w ∷ []) n = absurd (omega (arith, n))
five_full (x ∷ y ∷ z ∷ w ∷ v ∷ rest) n = ((λ e. cc e), (λ e. cc e), (λ e. cc e), (λ e. cc e), (λ e. cc e))
