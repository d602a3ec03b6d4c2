-- Lists of labels that grow at their end.
use Rattle.std.specs.Prelude.{◌==◌, ◌↔◌, not, if◌then◌else◌, Contains, slice_index_or}
use Rattle.std.proofs.Common.{◌≡◌, ℕ, zero, suc, ◌≤◌, ◌<◌, min, max, true, List, [], ◌∷◌, ◌++◌, length, refl, arith, sym, ap, ◌∙◌, inl, inr}
use Rattle.std.proofs.lemmas.Bool.{cases_lt}
use Rattle.std.proofs.lemmas.Bool.Decides.{nat_tests}
use Rattle.kt_tables.specs.Labels.{has_label, least, greatest, LabelsRise}

pub Rises_lower : (xs : List ℕ) (low : ℕ) → LabelsRise low xs → LabelsRise 0 xs
Rises_lower [] low r = tt
Rises_lower (x ∷ xs) low r = (omega (arith, r.0), r.1)

pub Rises_front : (xs ys : List ℕ) (low : ℕ) → LabelsRise low (xs ++ ys) → LabelsRise low xs
Rises_front [] ys low r = tt
Rises_front (x ∷ xs) ys low r = (r.0, Rises_front xs ys x r.1)

pub Rises_end : (xs ys : List ℕ) (low : ℕ) → LabelsRise low (xs ++ ys) → LabelsRise 0 ys
Rises_end [] ys low r = Rises_lower ys low r
Rises_end (x ∷ xs) ys low r = Rises_end xs ys x r.1

-- the least of labels that rise is the first
least_head : (x : ℕ) (xs : List ℕ) (low : ℕ) → LabelsRise low (x ∷ xs) → least (x ∷ xs) ≡ x
least_head x [] low r = refl
least_head x (y ∷ ys) low r =
    let first : least (y ∷ ys) ≡ y = least_head y ys x r.1 in
    let above : x < y = r.1.0 in
    let m : min x y ≡ x = omega arith in
    ap (λ (n : ℕ). min x n) first ∙ m

pub least_push : (xs : List ℕ) (l low : ℕ) → LabelsRise low (xs ++ l ∷ []) → least (xs ++ l ∷ []) ≡ (if has_label xs then least xs else l)
least_push [] l low r = refl
least_push (x ∷ xs) l low r = least_head x (xs ++ l ∷ []) low r ∙ sym (least_head x xs low (Rises_front (x ∷ xs) (l ∷ []) low r))

-- there is a least label above 0 exactly where there is a label
pub has_least : (xs : List ℕ) (low : ℕ) → LabelsRise low xs → not (least xs == 0) ≡ has_label xs
has_least [] low r = refl
has_least (x ∷ xs) low r =
    let e = least_head x xs low r in
    let a : low < x = r.0 in
    ap (λ (n : ℕ). not (n == 0)) e ∙ above x (omega arith)
  where
    above : (n : ℕ) → 0 < n → not (n == 0) ≡ true
    above n h = grind (arith, nat_tests)

pub greatest-append : (xs ys : List ℕ) → greatest (xs ++ ys) ≡ max (greatest xs) (greatest ys)
greatest-append [] ys = omega arith
greatest-append (x ∷ xs) ys = let h = greatest-append xs ys in omega arith

pub has_greatest : (xs : List ℕ) (low : ℕ) → LabelsRise low xs → not (greatest xs == 0) ≡ has_label xs
has_greatest [] low r = refl
has_greatest (x ∷ xs) low r = let a : low < x = r.0 in above (max x (greatest xs)) (omega arith)
  where
    above : (n : ℕ) → 0 < n → not (n == 0) ≡ true
    above n h = grind (arith, nat_tests)

rises_above : (xs : List ℕ) (low y k : ℕ) → LabelsRise low xs → k < length xs → slice_index_or xs k y ≡ y → low < y
rises_above [] low y k r b e = absurd (omega arith)
rises_above (x ∷ xs) low y zero r b e = let a : low < x = r.0 in let f : x ≡ y = e in omega arith
rises_above (x ∷ xs) low y (suc k) r b e = let a : low < x = r.0 in let h = rises_above xs x y k r.1 (omega arith) e in omega arith

-- some label is at most l exactly where the least one is
pub least_decides : (xs : List ℕ) (l : ℕ) → LabelsRise 0 xs → ((0 < least xs) × (least xs ≤ l)) ↔ ((x : ℕ) × Contains xs x × (x ≤ l))
least_decides [] l r = (λ h. absurd (omega (arith, h.0)), λ h. absurd (omega (arith, h.1.1)))
least_decides (x ∷ xs) l r =
    let e = least_head x xs 0 r in
    let a : 0 < x = r.0 in (
      λ h. (x, (zero, omega arith, refl), omega (arith, e, h.1)),
      λ h. (omega (arith, e), omega (arith, e, first_least h.0 h.1.0 h.1.1 h.1.2, h.2)),
    )
  where
    first_least : (y k : ℕ) → k < length (x ∷ xs) → slice_index_or (x ∷ xs) k y ≡ y → x ≤ y
    first_least y zero b e = let f : x ≡ y = e in omega arith
    first_least y (suc k) b e = let h = rises_above xs x y k r.1 (omega arith) e in omega arith

in_greatest : (xs : List ℕ) (y k : ℕ) → k < length xs → slice_index_or xs k y ≡ y → y ≤ greatest xs
in_greatest [] y k b e = absurd (omega arith)
in_greatest (x ∷ xs) y zero b e = let f : x ≡ y = e in omega arith
in_greatest (x ∷ xs) y (suc k) b e = let h = in_greatest xs y k (omega arith) e in omega arith

above_in : (xs : List ℕ) (l : ℕ) → l < greatest xs → (x : ℕ) × Contains xs x × (l < x)
above_in [] l h = absurd (omega arith)
above_in (x ∷ xs) l h = elim (cases_lt l x) [
  | inl a ↦ (x, (zero, omega arith, refl), a)
  | inr a ↦ let d = above_in xs l (omega arith) in (d.0, (suc d.1.0, omega (arith, d.1.1), d.1.2), d.2)
]

-- some label is above l exactly where the greatest one is
pub greatest_decides : (xs : List ℕ) (l : ℕ) → (l < greatest xs) ↔ ((x : ℕ) × Contains xs x × (l < x))
greatest_decides xs l = (above_in xs l, λ h. omega (arith, in_greatest xs h.0 h.1.0 h.1.1 h.1.2, h.2))
