-- Lists, as a loop reads them.
use Rattle.std.proofs.Common.{◌≡◌, ◌∙◌, ◌<◌, ◌+◌, ℕ, List, [], ◌∷◌, ◌++◌, length, take, map, refl, sym, ap, get_or}
use Rattle.std.proofs.lemmas.List.{map_more, get_or-map}
use Rattle.kt_plan.specs.Limits.{Planned}

-- two lists with the same images, one further
pub same_further : {X Y : Type 0} (f : X → Y) (xs ys : List X) (i : ℕ) (x y : X) → i < length xs → i < length ys
    → x ≡ get_or xs i x → y ≡ get_or ys i y → f x ≡ f y → map f (take i xs) ≡ map f (take i ys)
    → map f (take (i + 1) xs) ≡ map f (take (i + 1) ys)
same_further {X} {Y} f xs ys i x y low_x low_y is_x is_y same h =
    map_more f xs i x low_x
    ∙ (ap (λ (z : Y). map f (take i xs) ++ z ∷ []) (ap f (sym is_x) ∙ (same ∙ ap f is_y))
    ∙ (ap (λ (l : List Y). l ++ f (get_or ys i y) ∷ []) h
    ∙ sym (map_more f ys i y low_y)))

-- lists with the same images have them at each place
pub same_at : {X : Type 0} (f : X → List ℕ) (xs ys : List X) (i : ℕ) (x y : X) → i < length xs → i < length ys
    → x ≡ get_or xs i x → y ≡ get_or ys i y → map f xs ≡ map f ys → f x ≡ f y
same_at f xs ys i x y low_x low_y is_x is_y e =
    ap f is_x ∙ (sym (get_or-map f xs i x [] low_x)
    ∙ (ap (λ (l : List (List ℕ)). get_or l i []) e ∙ (get_or-map f ys i y [] low_y ∙ ap f (sym is_y))))

pub same_plan : (a b : Planned) → a.names ≡ b.names → a.kinds ≡ b.kinds → a.commands ≡ b.commands → a ≡ b
same_plan a b names kinds commands = rw (names, kinds, commands) refl
