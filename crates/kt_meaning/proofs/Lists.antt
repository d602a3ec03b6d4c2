-- Elements of lists by their place, and deeds of histories.
use Rattle.std.proofs.Common.{◌≡◌, ℕ, zero, suc, ◌+◌, ◌<◌, Bool, true, false, Some, List, [], ◌∷◌, ◌++◌, length, take, drop, refl, arith, ap, subst, ◌∙◌, inl, inr}
use Rattle.std.specs.List.{list_all, list_any}
use Rattle.std.specs.Prelude.{slice_get, filter, cond, ◌⊎◌, ◌&&◌, ◌||◌}
use Rattle.std.proofs.lemmas.Bool.Decides.{nat_tests}
use Rattle.kt_spacetime.specs.declared.deeds.Deed.{Deed}
use Rattle.kt_spacetime.specs.declared.deeds.Deed.TheVariants.{Sent, Received}
use Rattle.kt_meaning.specs.Legal.{is_deed, has_deed}

-- an element after a push is an old one, or the last
pub get_push : {X : Type 0} (xs : List X) (x : X) (i : ℕ) (y : X) → slice_get (xs ++ x ∷ []) i ≡ Some y → (slice_get xs i ≡ Some y) ⊎ ((i ≡ length xs) × (x ≡ y))
get_push [] x zero y h = inr (refl, cc)
get_push [] x (suc i) y h = absurd (cc)
get_push (z ∷ xs) x zero y h = inl h
get_push (z ∷ xs) x (suc i) y h = elim (get_push xs x i y h) [ inl a ↦ inl a | inr b ↦ inr (ap suc b.0, b.1) ]

pub get_kept : {X : Type 0} (xs : List X) (y : X) (i : ℕ) (x : X) → slice_get xs i ≡ Some x → slice_get (xs ++ y ∷ []) i ≡ Some x
get_kept [] y i x e = absurd (cc)
get_kept (z ∷ zs) y zero x e = e
get_kept (z ∷ zs) y (suc i) x e = get_kept zs y i x e

pub get_last : {X : Type 0} (xs : List X) (y : X) → slice_get (xs ++ y ∷ []) (length xs) ≡ Some y
get_last [] y = refl
get_last (x ∷ xs) y = get_last xs y

pub get_take : {X : Type 0} (n : ℕ) (xs : List X) (i : ℕ) (y : X) → slice_get (take n xs) i ≡ Some y → (slice_get xs i ≡ Some y) × (i < n)
get_take zero xs i y h = absurd (cc)
get_take (suc n) [] i y h = absurd (cc)
get_take (suc n) (z ∷ xs) zero y h = (h, omega arith)
get_take (suc n) (z ∷ xs) (suc i) y h = let r = get_take n xs i y h in (r.0, omega arith)

pub get_in_take : {X : Type 0} (n : ℕ) (xs : List X) (i : ℕ) (y : X) → slice_get xs i ≡ Some y → i < n → slice_get (take n xs) i ≡ Some y
get_in_take n [] i y e l = absurd (cc)
get_in_take zero (z ∷ xs) i y e l = absurd (omega arith)
get_in_take (suc n) (z ∷ xs) zero y e l = e
get_in_take (suc n) (z ∷ xs) (suc i) y e l = get_in_take n xs i y e (omega arith)

pub get_drop : {X : Type 0} (n : ℕ) (xs : List X) (i : ℕ) (y : X) → slice_get (drop n xs) i ≡ Some y → slice_get xs (n + i) ≡ Some y
get_drop zero xs i y h = let e : 0 + i ≡ i = omega arith in rw e h
get_drop (suc n) [] i y h = absurd (cc)
get_drop (suc n) (z ∷ xs) i y h = let e : suc n + i ≡ suc (n + i) = omega arith in rw e (get_drop n xs i y h)

-- a test of all elements, and of some
pub all_at : {X : Type 0} (test : X → Bool) (xs : List X) (i : ℕ) (x : X) → list_all test xs ≡ true → slice_get xs i ≡ Some x → test x ≡ true
all_at test [] i x a e = absurd (cc)
all_at {X} test (y ∷ ys) i x a e = at_test (test y) refl a i e (λ j b f. all_at test ys j x b f)
  where
    at_test : (b : Bool) → test y ≡ b → (b && list_all test ys) ≡ true → (i : ℕ) → slice_get (y ∷ ys) i ≡ Some x → ((j : ℕ) → list_all test ys ≡ true → slice_get ys j ≡ Some x → test x ≡ true) → test x ≡ true
    at_test false t a i e rest = absurd (cc)
    at_test true t a zero e rest = let same : y ≡ x = cc in subst (λ (z : X). test z ≡ true) same t
    at_test true t a (suc i) e rest = rest i a e

pub any_at : {X : Type 0} (test : X → Bool) (xs : List X) → list_any test xs ≡ true → (i : ℕ) × (x : X) × (slice_get xs i ≡ Some x) × (test x ≡ true)
any_at test [] a = absurd (cc)
any_at {X} test (y ∷ ys) a = at_test (test y) refl a (λ b. any_at test ys b)
  where
    at_test : (b : Bool) → test y ≡ b → (b || list_any test ys) ≡ true → (list_any test ys ≡ true → (i : ℕ) × (x : X) × (slice_get ys i ≡ Some x) × (test x ≡ true)) → (i : ℕ) × (x : X) × (slice_get (y ∷ ys) i ≡ Some x) × (test x ≡ true)
    at_test true t a rest = (0, y, refl, t)
    at_test false t a rest = let r = rest a in (suc r.0, r.1, r.2, r.3)

pub any_from : {X : Type 0} (test : X → Bool) (xs : List X) (i : ℕ) (x : X) → slice_get xs i ≡ Some x → test x ≡ true → list_any test xs ≡ true
any_from test [] i x e t = absurd (cc)
any_from test (y ∷ ys) zero x e t = let same : y ≡ x = cc in rw (same, t) refl
any_from test (y ∷ ys) (suc i) x e t = at_test (test y) (any_from test ys i x e t)
  where
    at_test : (b : Bool) → list_any test ys ≡ true → (b || list_any test ys) ≡ true
    at_test true r = refl
    at_test false r = r

-- the test of deeds is sameness
pub same_deed : (d x : Deed) → is_deed d x ≡ true → x ≡ d
same_deed (Sent m p) (Sent n q) e = let a : n ≡ m = grind (arith, nat_tests) in let b : q ≡ p = grind (arith, nat_tests) in cc
same_deed (Received m p) (Received n q) e = let a : n ≡ m = grind (arith, nat_tests) in let b : q ≡ p = grind (arith, nat_tests) in cc
same_deed (Sent m p) (Received n q) e = absurd (cc)
same_deed (Received m p) (Sent n q) e = absurd (cc)

pub is_deed_itself : (d : Deed) → is_deed d d ≡ true
is_deed_itself (Sent m p) = grind (arith, nat_tests)
is_deed_itself (Received m p) = grind (arith, nat_tests)

-- a deed that a history has stands at a place
pub deed_place : (d : Deed) (l : List Deed) → has_deed d l ≡ true → (i : ℕ) × (slice_get l i ≡ Some d)
deed_place d l h = let a = any_at (is_deed d) l h in (a.0, a.2 ∙ ap (λ (x : Deed). Some x) (same_deed d a.1 a.3))

pub has_from_place : (d : Deed) (l : List Deed) (i : ℕ) → slice_get l i ≡ Some d → has_deed d l ≡ true
has_from_place d l i e = any_from (is_deed d) l i d e (is_deed_itself d)

-- a filter that keeps nothing lets no element pass
pub filtered_out : {X : Type 0} (test : X → Bool) (xs : List X) (i : ℕ) (x : X) → filter test xs ≡ [] → slice_get xs i ≡ Some x → test x ≡ false
filtered_out test [] i x f e = absurd (cc)
filtered_out {X} test (y ∷ ys) i x f e = at_test (test y) refl f i e (λ j g h. filtered_out test ys j x g h)
  where
    at_test : (b : Bool) → test y ≡ b → cond b (y ∷ filter test ys) (filter test ys) ≡ [] → (i : ℕ) → slice_get (y ∷ ys) i ≡ Some x → ((j : ℕ) → filter test ys ≡ [] → slice_get ys j ≡ Some x → test x ≡ false) → test x ≡ false
    at_test true t f i e rest = absurd (cc)
    at_test false t f zero e rest = let same : y ≡ x = cc in subst (λ (z : X). test z ≡ false) same t
    at_test false t f (suc i) e rest = rest i f e
