-- A list with another item at a number.
use Rattle.std.proofs.Common.{◌≡◌, ◌≢◌, ℕ, zero, suc, Some, option_map, List, [], ◌∷◌, map, set, refl, ap}
use Rattle.std.specs.List.{slice_get}
use Rattle.kt_rules.specs.Standing.{at_number}
use Rattle.kt_meaning.proofs.Items.{some_same}
use Rattle.kt_certify.specs.Instances.{changed_at, changed}

at_same : {X : Type 0} (n : ℕ) (f : X → X) (xs : List X) → slice_get (changed_at n f xs) n ≡ option_map f (slice_get xs n)
at_same n f [] = refl
at_same zero f (x ∷ xs) = refl
at_same (suc n) f (x ∷ xs) = at_same n f xs

at_other : {X : Type 0} (n : ℕ) (f : X → X) (xs : List X) (j : ℕ) → j ≢ n → slice_get (changed_at n f xs) j ≡ slice_get xs j
at_other n f [] j other = refl
at_other zero f (x ∷ xs) zero other = absurd (other refl)
at_other zero f (x ∷ xs) (suc j) other = refl
at_other (suc n) f (x ∷ xs) zero other = refl
at_other (suc n) f (x ∷ xs) (suc j) other = at_other n f xs j (λ e. other (ap suc e))

pub changed_same : {X : Type 0} (k : ℕ) (f : X → X) (xs : List X) → at_number (changed k f xs) k ≡ option_map f (at_number xs k)
changed_same zero f xs = refl
changed_same (suc n) f xs = at_same n f xs

pub changed_other : {X : Type 0} (k : ℕ) (f : X → X) (xs : List X) (j : ℕ) → j ≢ k → at_number (changed k f xs) j ≡ at_number xs j
changed_other k f xs zero other = refl
changed_other zero f xs (suc j) other = refl
changed_other (suc n) f xs (suc j) other = at_other n f xs j (λ e. other (ap suc e))

map_at : {X Y : Type 0} (g : X → Y) (n : ℕ) (f : X → X) (xs : List X) → ((x : X) → g (f x) ≡ g x) → map g (changed_at n f xs) ≡ map g xs
map_at g n f [] same = refl
map_at {Y = Y} g zero f (x ∷ xs) same = ap (λ (y : Y). y ∷ map g xs) (same x)
map_at {Y = Y} g (suc n) f (x ∷ xs) same = ap (λ (ys : List Y). g x ∷ ys) (map_at g n f xs same)

pub map_changed : {X Y : Type 0} (g : X → Y) (k : ℕ) (f : X → X) (xs : List X) → ((x : X) → g (f x) ≡ g x) → map g (changed k f xs) ≡ map g xs
map_changed g zero f xs same = refl
map_changed g (suc n) f xs same = map_at g n f xs same

-- where the item is there, it is set at its index
set_at : {X : Type 0} (n : ℕ) (f : X → X) (xs : List X) (x : X) → slice_get xs n ≡ Some x → changed_at n f xs ≡ set xs n (f x)
set_at n f [] x e = absurd (cc)
set_at zero f (y ∷ xs) x e = ap (λ z. f z ∷ xs) (some_same e)
set_at (suc n) f (y ∷ xs) x e = ap (λ zs. y ∷ zs) (set_at n f xs x e)

pub changed_set : {X : Type 0} (n : ℕ) (f : X → X) (xs : List X) (x : X) → slice_get xs n ≡ Some x → changed (suc n) f xs ≡ set xs n (f x)
changed_set n f xs x e = set_at n f xs x e
