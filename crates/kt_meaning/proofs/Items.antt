-- What stands at a place of a list.
use Rattle.std.proofs.Common.{◌≡◌, ◌≢◌, ℕ, zero, suc, ◌+◌, ◌<◌, ◌⊎◌, Some, List, [], ◌∷◌, ◌++◌, length, map, set, take, drop, refl, sym, ap, ◌∙◌, arith, inl, inr, ◌-◌, ◌≤◌}
use Rattle.std.specs.List.{slice_get}
use Rattle.std.proofs.Math.Seq.{take-append_seam}

pub get_left : {X : Type 0} (xs ys : List X) (i : ℕ) → i < length xs → slice_get (xs ++ ys) i ≡ slice_get xs i
get_left [] ys i l = absurd (omega arith)
get_left (x ∷ xs) ys zero l = refl
get_left (x ∷ xs) ys (suc i) l = get_left xs ys i (omega arith)

pub get_seam : {X : Type 0} (xs : List X) (y : X) (ys : List X) → slice_get (xs ++ y ∷ ys) (length xs) ≡ Some y
get_seam [] y ys = refl
get_seam (x ∷ xs) y ys = get_seam xs y ys

pub get_right : {X : Type 0} (xs ys : List X) (i n : ℕ) → n ≡ length xs + i → slice_get (xs ++ ys) n ≡ slice_get ys i
get_right [] ys i n e = ap (slice_get ys) (omega (arith, e))
get_right (x ∷ xs) ys i zero e = absurd (omega (arith, e))
get_right (x ∷ xs) ys i (suc n) e = get_right xs ys i n (omega (arith, e))

pub get_set_same : {X : Type 0} (xs : List X) (i : ℕ) (x : X) → i < length xs → slice_get (set xs i x) i ≡ Some x
get_set_same [] i x l = absurd (omega arith)
get_set_same (y ∷ xs) zero x l = refl
get_set_same (y ∷ xs) (suc i) x l = get_set_same xs i x (omega arith)

pub get_set_other : {X : Type 0} (xs : List X) (i j : ℕ) (x : X) → j ≢ i → slice_get (set xs i x) j ≡ slice_get xs j
get_set_other [] i j x n = refl
get_set_other (y ∷ xs) zero zero x n = absurd (n refl)
get_set_other (y ∷ xs) zero (suc j) x n = refl
get_set_other (y ∷ xs) (suc i) zero x n = refl
get_set_other (y ∷ xs) (suc i) (suc j) x n = get_set_other xs i j x (λ e. n (ap suc e))

pub get_take : {X : Type 0} (n : ℕ) (xs : List X) (i : ℕ) (x : X) → slice_get (take n xs) i ≡ Some x → slice_get xs i ≡ Some x
get_take zero [] i x e = absurd (cc)
get_take (suc n) [] i x e = absurd (cc)
get_take zero (y ∷ xs) i x e = absurd (cc)
get_take (suc n) (y ∷ xs) zero x e = e
get_take (suc n) (y ∷ xs) (suc i) x e = get_take n xs i x e

-- an item of a list with one more is one of the list, or the last
pub get_push : {X : Type 0} (xs : List X) (y : X) (i : ℕ) (v : X) → slice_get (xs ++ y ∷ []) i ≡ Some v
    → (slice_get xs i ≡ Some v) ⊎ ((i ≡ length xs) × (v ≡ y))
get_push [] y zero v e = inr (refl, cc)
get_push [] y (suc i) v e = absurd (cc)
get_push (x ∷ xs) y zero v e = inl e
get_push (x ∷ xs) y (suc i) v e = elim (get_push xs y i v e) [
  | inl h ↦ inl h
  | inr h ↦ inr (ap suc h.0, h.1)
]

pub in_take : {X : Type 0} (n : ℕ) (xs : List X) (i : ℕ) (x : X) → slice_get (take n xs) i ≡ Some x → i < n
in_take zero [] i x e = absurd (cc)
in_take (suc n) [] i x e = absurd (cc)
in_take zero (y ∷ xs) i x e = absurd (cc)
in_take (suc n) (y ∷ xs) zero x e = omega arith
in_take (suc n) (y ∷ xs) (suc i) x e = omega (arith, in_take n xs i x e)

pub get_in_take : {X : Type 0} (n : ℕ) (xs : List X) (i : ℕ) → i < n → slice_get (take n xs) i ≡ slice_get xs i
get_in_take zero xs i l = absurd (omega (arith, l))
get_in_take (suc n) [] i l = refl
get_in_take (suc n) (y ∷ xs) zero l = refl
get_in_take (suc n) (y ∷ xs) (suc i) l = get_in_take n xs i (omega (arith, l))

pub set_mapped : {X Y : Type 0} (f : X → Y) (xs : List X) (i : ℕ) (x y : X) → slice_get xs i ≡ Some x → f y ≡ f x → map f (set xs i y) ≡ map f xs
set_mapped f [] i x y e s = absurd (cc)
set_mapped f (z ∷ xs) zero x y e s =
    let same : z ≡ x = cc in
    ap (λ (t : _). t ∷ map f xs) (s ∙ ap f (sym same))
set_mapped f (z ∷ xs) (suc i) x y e s = ap (λ (t : _). f z ∷ t) (set_mapped f xs i x y e s)

pub item_there : {X : Type 0} (xs : List X) (i : ℕ) → i < length xs → (x : X) × (slice_get xs i ≡ Some x)
item_there [] i l = absurd (omega (arith, l))
item_there (x ∷ xs) zero l = (x, refl)
item_there (x ∷ xs) (suc i) l = item_there xs i (omega (arith, l))

-- a list written over a whole other one
pub written : {X : Type 0} (n : ℕ) (ws xs : List X) → length ws ≡ n → take n (ws ++ drop (length ws) xs) ≡ ws
written n ws xs e = rw (← e) (take-append_seam ws (drop (length ws) xs))

pub take_item : {X : Type 0} (xs : List X) (i n : ℕ) (x : X) → n ≡ i + 1 → slice_get xs i ≡ Some x → take n xs ≡ take i xs ++ x ∷ []
take_item [] i n x e a = absurd (cc)
take_item (y ∷ xs) i zero x e a = absurd (omega (arith, e))
take_item (y ∷ xs) zero (suc n) x e a =
    let none : n ≡ 0 = omega (arith, e) in
    let same : y ≡ x = cc in
    rw (none, same) refl
take_item (y ∷ xs) (suc i) (suc n) x e a = ap (λ (t : _). y ∷ t) (take_item xs i n x (omega (arith, e)) a)

pub get_from_drop : {X : Type 0} (n : ℕ) (l : List X) (i : ℕ) (d : X) → slice_get l i ≡ Some d → n ≤ i → slice_get (drop n l) (i - n) ≡ Some d
get_from_drop zero l i d e h =
    let same : i - 0 ≡ i = omega arith in
    ap (slice_get l) same ∙ e
get_from_drop (suc n) [] i d e h = absurd (cc)
get_from_drop (suc n) (x ∷ l) zero d e h = absurd (omega (arith, h))
get_from_drop (suc n) (x ∷ l) (suc i) d e h =
    let same : suc i - suc n ≡ i - n = omega arith in
    ap (slice_get (drop n l)) same ∙ get_from_drop n l i d e (omega (arith, h))

pub some_same : {X : Type 0} {x y : X} → Some x ≡ Some y → x ≡ y
some_same e = cc
