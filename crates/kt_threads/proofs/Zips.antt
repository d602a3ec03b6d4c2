-- Lists side by side, and one more at the end of both.
use Rattle.std.proofs.Common.{◌≡◌, ◌∙◌, List, [], ◌∷◌, ◌++◌, map, refl, sym, ap}
use Rattle.std.specs.List.{AllZip}
use Rattle.std.proofs.lemmas.List.{map-append}

pub all_zip_more : {A B : Type 0} (R : A → B → Type 0) (xs : List A) (ys : List B) (x : A) (y : B) → AllZip R xs ys → R x y → AllZip R (xs ++ x ∷ []) (ys ++ y ∷ [])
all_zip_more R [] [] x y h r = (r, tt)
all_zip_more R [] (b ∷ ys) x y h r = elim h [ ]
all_zip_more R (a ∷ xs) [] x y h r = elim h [ ]
all_zip_more R (a ∷ xs) (b ∷ ys) x y h r = (h.0, all_zip_more R xs ys x y h.1 r)

pub mapped_more : {A B : Type 0} (f : A → B) (xs : List A) (ys : List B) (x : A) (y : B) → map f xs ≡ ys → f x ≡ y → map f (xs ++ x ∷ []) ≡ ys ++ y ∷ []
mapped_more {A} {B} f xs ys x y e h =
    map-append f xs (x ∷ []) ∙ (ap (λ (l : List B). l ++ f x ∷ []) e ∙ ap (λ (z : B). ys ++ z ∷ []) h)

pub mapped_last : {A B : Type 0} (g : A → B) (xs : List B) (ys : List A) (x : B) (y : A) → xs ≡ map g ys → x ≡ g y → xs ++ x ∷ [] ≡ map g (ys ++ y ∷ [])
mapped_last g xs ys x y e h = sym (mapped_more g ys xs y x (sym e) (sym h))

pub mapped_both : {A B C : Type 0} (f : A → C) (g : B → C) (xs : List A) (ys : List B) (x : A) (y : B) → map f xs ≡ map g ys → f x ≡ g y
    → map f (xs ++ x ∷ []) ≡ map g (ys ++ y ∷ [])
mapped_both f g xs ys x y e h = mapped_more f xs (map g ys) x (g y) e h ∙ sym (map-append g ys (y ∷ []))

-- one after the other
pub mapped : {A B C : Type 0} (f : B → C) (g : A → B) (h : A → C) → ((x : A) → h x ≡ f (g x)) → (xs : List A) → map h xs ≡ map f (map g xs)
mapped f g h e [] = refl
mapped f g h e (x ∷ xs) = ap (λ y. y ∷ map h xs) (e x) ∙ ap (λ ys. f (g x) ∷ ys) (mapped f g h e xs)
