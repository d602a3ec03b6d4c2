-- Places in lists, counted from 1.
use Rattle.std.proofs.Common.{◌≡◌, ◌∙◌, ℕ, zero, suc, ◌+◌, ◌≤◌, ◌==◌, if◌then◌else◌, Bool, true, false, Option, Some, None, option_map, List, [], ◌∷◌, ◌++◌, ◌⊎◌, length, refl, sym, ap, subst, arith, inl, inr}
use Rattle.std.specs.List.{slice_get}
use Rattle.std.specs.Option.{option_and_then}
use Rattle.std.proofs.lemmas.Bool.Decides.{nat_tests}
use Rattle.std.proofs.lemmas.Option.{slice_get_within}
use Rattle.kt_meaning.proofs.Items.{get_left, get_seam, get_push}
use Rattle.kt_meaning.specs.Names.{at_place, place_of}

-- where a value comes from
pub map_some : {A B : Type 0} (f : A → B) (o : Option A) (y : B) → option_map f o ≡ Some y → (x : A) × (o ≡ Some x) × (f x ≡ y)
map_some f None y e = absurd (cc)
map_some f (Some x) y e = (x, refl, cc)

pub then_some : {A B : Type 0} (f : A → Option B) (o : Option A) (y : B) → option_and_then f o ≡ Some y → (x : A) × (o ≡ Some x) × (f x ≡ Some y)
then_some f None y e = absurd (cc)
then_some f (Some x) y e = (x, refl, e)

pub test_some : {A : Type 0} (b : Bool) (x y : A) → (if b then Some x else None) ≡ Some y → (b ≡ true) × (x ≡ y)
test_some true x y e = (refl, cc)
test_some false x y e = absurd (cc)

pub same_test : (n : ℕ) → (n == n) ≡ true
same_test n = grind (arith, nat_tests)

pub tested : (a b : ℕ) → (a == b) ≡ true → a ≡ b
tested a b e = grind (arith, nat_tests)

-- a number's first place is before one more item, or after it
place_later : (n x : ℕ) (xs : List ℕ) → (x == n) ≡ false → place_of n (x ∷ xs) ≡ option_map suc (place_of n xs)
place_later n x xs e = ap (λ (b : Bool). if b then Some 1 else option_map suc (place_of n xs)) e

place_here : (n x : ℕ) (xs : List ℕ) → (x == n) ≡ true → place_of n (x ∷ xs) ≡ Some 1
place_here n x xs e = ap (λ (b : Bool). if b then Some 1 else option_map suc (place_of n xs)) e

at_later : (x : ℕ) (xs : List ℕ) (c n : ℕ) → at_place xs c ≡ Some n → at_place (x ∷ xs) (suc c) ≡ Some n
at_later x xs zero n e = absurd (cc)
at_later x xs (suc c) n e = e

-- a number stands at its place
pub place_at : (n : ℕ) (xs : List ℕ) (c : ℕ) → place_of n xs ≡ Some c → at_place xs c ≡ Some n
place_at n [] c e = absurd (cc)
place_at n (x ∷ xs) c e = at_test (x == n) refl (λ d. place_at n xs d)
  where
    at_test : (b : Bool) → (x == n) ≡ b → ((d : ℕ) → place_of n xs ≡ Some d → at_place xs d ≡ Some n) → at_place (x ∷ xs) c ≡ Some n
    at_test true t rest =
        let one : 1 ≡ c = cc (place_here n x xs t) in
        subst (λ (d : ℕ). at_place (x ∷ xs) d ≡ Some n) one (ap Some (tested x n t))
    at_test false t rest =
        let there = map_some suc (place_of n xs) c (sym (place_later n x xs t) ∙ e) in
        subst (λ (d : ℕ). at_place (x ∷ xs) d ≡ Some n) there.2 (at_later x xs there.0 n (rest there.0 there.1))

-- a number that has a place keeps it
pub place_kept : (n : ℕ) (xs ys : List ℕ) (c : ℕ) → place_of n xs ≡ Some c → place_of n (xs ++ ys) ≡ Some c
place_kept n [] ys c e = absurd (cc)
place_kept n (x ∷ xs) ys c e = at_test (x == n) refl (λ d. place_kept n xs ys d)
  where
    at_test : (b : Bool) → (x == n) ≡ b → ((d : ℕ) → place_of n xs ≡ Some d → place_of n (xs ++ ys) ≡ Some d) → place_of n ((x ∷ xs) ++ ys) ≡ Some c
    at_test true t rest = place_here n x (xs ++ ys) t ∙ (sym (place_here n x xs t) ∙ e)
    at_test false t rest =
        let there = map_some suc (place_of n xs) c (sym (place_later n x xs t) ∙ e) in
        place_later n x (xs ++ ys) t ∙ (ap (option_map suc) (rest there.0 there.1) ∙ ap Some there.2)

map_none : (o : Option ℕ) → option_map suc o ≡ None → o ≡ None
map_none None e = refl
map_none (Some x) e = absurd (cc)

-- a number that has no place gets the place after the last
pub place_new : (n : ℕ) (xs : List ℕ) → place_of n xs ≡ None → place_of n (xs ++ n ∷ []) ≡ Some (length xs + 1)
place_new n [] e = place_here n n [] (same_test n)
place_new n (x ∷ xs) e = at_test (x == n) refl (place_new n xs)
  where
    at_test : (b : Bool) → (x == n) ≡ b → (place_of n xs ≡ None → place_of n (xs ++ n ∷ []) ≡ Some (length xs + 1)) → place_of n ((x ∷ xs) ++ n ∷ []) ≡ Some (length (x ∷ xs) + 1)
    at_test true t rest = absurd (cc (place_here n x xs t))
    at_test false t rest =
        let none = map_none (place_of n xs) (sym (place_later n x xs t) ∙ e) in
        let number : suc (length xs + 1) ≡ suc (length xs) + 1 = omega arith in
        place_later n x (xs ++ n ∷ []) t ∙ (ap (option_map suc) (rest none) ∙ ap Some number)

-- a number that stands nowhere has no place
pub place_none : (n : ℕ) (xs : List ℕ) → ((c : ℕ) → at_place xs c ≡ Some n → ⊥) → place_of n xs ≡ None
place_none n xs never = at_place_of (place_of n xs) refl
  where
    at_place_of : (o : Option ℕ) → place_of n xs ≡ o → place_of n xs ≡ None
    at_place_of None e = e
    at_place_of (Some c) e = absurd (never c (place_at n xs c e))

-- what stands at a place is within the list
pub at_within : (xs : List ℕ) (c n : ℕ) → at_place xs c ≡ Some n → (1 ≤ c) × (c ≤ length xs)
at_within xs zero n e = absurd (cc)
at_within xs (suc c) n e = (omega arith, omega (arith, slice_get_within xs c n e))

pub at_kept : (xs ys : List ℕ) (c n : ℕ) → at_place xs c ≡ Some n → at_place (xs ++ ys) c ≡ Some n
at_kept xs ys zero n e = absurd (cc)
at_kept xs ys (suc c) n e = get_left xs ys c (slice_get_within xs c n e) ∙ e

pub at_last : (xs : List ℕ) (n : ℕ) → at_place (xs ++ n ∷ []) (length xs + 1) ≡ Some n
at_last xs n =
    let number : length xs + 1 ≡ suc (length xs) = omega arith in
    subst (λ (c : ℕ). at_place (xs ++ n ∷ []) c ≡ Some n) (sym number) (get_seam xs n [])

pub at_push : (xs : List ℕ) (n c m : ℕ) → at_place (xs ++ n ∷ []) c ≡ Some m → (at_place xs c ≡ Some m) ⊎ ((c ≡ length xs + 1) × (m ≡ n))
at_push xs n zero m e = absurd (cc)
at_push xs n (suc c) m e = elim (get_push xs n c m e) [
  | inl h ↦ inl h
  | inr h ↦ inr (omega (arith, h.0), h.1)
]

-- each place of a list has a number
pub at_some : (xs : List ℕ) (c : ℕ) → 1 ≤ c → c ≤ length xs → (n : ℕ) × (at_place xs c ≡ Some n)
at_some xs zero l r = absurd (omega (arith, l))
at_some xs (suc c) l r = within xs c (omega (arith, r))
  where
    within : (xs : List ℕ) (c : ℕ) → suc c ≤ length xs → (n : ℕ) × (slice_get xs c ≡ Some n)
    within [] c h = absurd (omega (arith, h))
    within (x ∷ xs) zero h = (x, refl)
    within (x ∷ xs) (suc c) h = within xs c (omega (arith, h))

-- each number of a list stands at its first place alone
pub record StandsOnce (xs : List ℕ) : Type 0 where
  pub found : (c n : ℕ) → at_place xs c ≡ Some n → place_of n xs ≡ Some c

pub once_none : StandsOnce []
once_none = record { found = λ c n e. absurd (nothing c n e) }
  where
    nothing : (c n : ℕ) → at_place [] c ≡ Some n → ⊥
    nothing zero n e = cc
    nothing (suc c) n e = cc

pub once_push : (xs : List ℕ) (n : ℕ) → StandsOnce xs → ((c : ℕ) → at_place xs c ≡ Some n → ⊥) → StandsOnce (xs ++ n ∷ [])
once_push xs n once never = record { found = found }
  where
    found : (c m : ℕ) → at_place (xs ++ n ∷ []) c ≡ Some m → place_of m (xs ++ n ∷ []) ≡ Some c
    found c m e = elim (at_push xs n c m e) [
      | inl h ↦ place_kept m xs (n ∷ []) c (once.found c m h)
      | inr h ↦
          let new = place_new n xs (place_none n xs never) in
          subst (λ (k : ℕ). place_of k (xs ++ n ∷ []) ≡ Some c) (sym h.1) (new ∙ ap Some (sym h.0))
    ]
