-- An item of a list by what stands before it, and two lists place by place.
use Rattle.std.proofs.Common.{◌≡◌, ◌<◌, ℕ, zero, suc, List, [], ◌∷◌, ◌++◌, length, refl, sym, ap, ◌∙◌, arith, slice_index_or, append_assoc, length-append}
use Rattle.std.specs.List.{AllZip}

item_behind : {A : Type 0} (xs ys : List A) (x d : A) (n : ℕ) → n ≡ length xs → slice_index_or (xs ++ x ∷ ys) n d ≡ x
item_behind [] ys x d zero e = refl
item_behind [] ys x d (suc n) e = absurd (omega (arith, e))
item_behind (y ∷ xs) ys x d zero e = absurd (omega (arith, e))
item_behind (y ∷ xs) ys x d (suc n) e = item_behind xs ys x d n (omega (arith, e))

-- an item of a list, by what stands before it
pub item_in : {A : Type 0} (xs ys all : List A) (x d : A) (n : ℕ) → (xs ++ x ∷ []) ++ ys ≡ all → n ≡ length xs → slice_index_or all n d ≡ x
item_in xs ys all x d n e f = ap (λ (l : List _). slice_index_or l n d) (sym e ∙ append_assoc xs (x ∷ []) ys) ∙ item_behind xs ys x d n f

-- its place is one of the list
pub place_in : {A : Type 0} (xs ys all : List A) (x : A) (n : ℕ) → (xs ++ x ∷ []) ++ ys ≡ all → n ≡ length xs → n < length all
place_in xs ys all x n e f =
    let h = ap length (sym e) ∙ length-append (xs ++ x ∷ []) ys in
    let i = length-append xs (x ∷ []) in
    omega (arith, h, i, f)

-- one more at the end of both
pub zip_more : {A B : Type 0} (R : A → B → Type 0) (xs : List A) (ys : List B) (x : A) (y : B) → AllZip R xs ys → R x y → AllZip R (xs ++ x ∷ []) (ys ++ y ∷ [])
zip_more R [] [] x y h r = (r, tt)
zip_more R [] (b ∷ ys) x y h r = absurd h
zip_more R (a ∷ xs) [] x y h r = absurd h
zip_more R (a ∷ xs) (b ∷ ys) x y h r = (h.0, zip_more R xs ys x y h.1 r)

pub zip_length : {A B : Type 0} (R : A → B → Type 0) (xs : List A) (ys : List B) → AllZip R xs ys → length ys ≡ length xs
zip_length R [] [] h = refl
zip_length R [] (b ∷ ys) h = absurd h
zip_length R (a ∷ xs) [] h = absurd h
zip_length R (a ∷ xs) (b ∷ ys) h = let e = zip_length R xs ys h.1 in omega (arith, e)
