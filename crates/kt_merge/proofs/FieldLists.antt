-- Records of six fields.
use Rattle.std.proofs.Common.{◌≡◌, ◌≢◌, ℕ, List, [], ◌∷◌, length, Some, None, arith}
use Rattle.csv.specs.Records.{field_at}

-- a list of six fields, from what is at its places
pub six_of : (fs : List (List ℕ)) (a b c d e f : List ℕ) → length fs ≡ 6 → Some a ≡ field_at fs 0 → Some b ≡ field_at fs 1 → Some c ≡ field_at fs 2 → Some d ≡ field_at fs 3 → Some e ≡ field_at fs 4 → Some f ≡ field_at fs 5
    → fs ≡ a ∷ b ∷ c ∷ d ∷ e ∷ f ∷ []
unfolding field_at
six_of [] a b c d e f n p q r s t u = absurd (omega (arith, n))
six_of (x1 ∷ []) a b c d e f n p q r s t u = absurd (omega (arith, n))
six_of (x1 ∷ x2 ∷ []) a b c d e f n p q r s t u = absurd (omega (arith, n))
six_of (x1 ∷ x2 ∷ x3 ∷ []) a b c d e f n p q r s t u = absurd (omega (arith, n))
six_of (x1 ∷ x2 ∷ x3 ∷ x4 ∷ []) a b c d e f n p q r s t u = absurd (omega (arith, n))
six_of (x1 ∷ x2 ∷ x3 ∷ x4 ∷ x5 ∷ []) a b c d e f n p q r s t u = absurd (omega (arith, n))
six_of (x1 ∷ x2 ∷ x3 ∷ x4 ∷ x5 ∷ x6 ∷ []) a b c d e f n p q r s t u = cc (p, q, r, s, t, u)
six_of (x1 ∷ x2 ∷ x3 ∷ x4 ∷ x5 ∷ x6 ∷ x7 ∷ rest) a b c d e f n p q r s t u = absurd (omega (arith, n))

-- each of six places has a field
pub six_full : (fs : List (List ℕ)) → length fs ≡ 6 → (field_at fs 0 ≢ None) × (field_at fs 1 ≢ None) × (field_at fs 2 ≢ None) × (field_at fs 3 ≢ None) × (field_at fs 4 ≢ None) × (field_at fs 5 ≢ None)
unfolding field_at
six_full [] n = absurd (omega (arith, n))
six_full (x1 ∷ []) n = absurd (omega (arith, n))
six_full (x1 ∷ x2 ∷ []) n = absurd (omega (arith, n))
six_full (x1 ∷ x2 ∷ x3 ∷ []) n = absurd (omega (arith, n))
six_full (x1 ∷ x2 ∷ x3 ∷ x4 ∷ []) n = absurd (omega (arith, n))
six_full (x1 ∷ x2 ∷ x3 ∷ x4 ∷ x5 ∷ []) n = absurd (omega (arith, n))
six_full (x1 ∷ x2 ∷ x3 ∷ x4 ∷ x5 ∷ x6 ∷ rest) n = ((λ e. cc e), (λ e. cc e), (λ e. cc e), (λ e. cc e), (λ e. cc e), (λ e. cc e))
