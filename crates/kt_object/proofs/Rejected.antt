-- Whose first object may be saved or refuse, and which of the objects that are held may reject a saved state.
use Rattle.std.proofs.Common.{◌≡◌, ◌⊎◌, ◌<◌, ℕ, zero, suc, List, [], ◌∷◌, ◌++◌, length, map, refl, sym, ap, subst, ◌∙◌, arith, inl, inr, take, set, append_assoc, length-append, below_more, Option, Some, None, slice_index_or}
use Rattle.std.specs.Prelude.{false, is_some, remove, slice_get, option_map}
use Rattle.std.specs.List.{Any}
use Rattle.std.proofs.lemmas.Option.{slice_get-map}
use Rattle.kt_object.specs.SavedStates.{SavedStates}
use Rattle.kt_plan.specs.declared.steps.Act.{Act}
use Rattle.kt_object.specs.Holdings.{Content, Holding, Holds, does_all}
use Rattle.kt_object.specs.Refusals.{held_objects, IsRejected, IsFirstObject}

pub any_here : {A : Type 0} (P : A → Type 0) (x : A) (xs : List A) → P x → Any P (x ∷ xs)
any_here P x xs h = (0, x, omega arith, refl, h)

pub any_later : {A : Type 0} (P : A → Type 0) (x : A) (xs : List A) → Any P xs → Any P (x ∷ xs)
any_later P x xs a = let l = a.2 in (suc a.0, a.1, omega (arith, l), a.3, a.4)

pub any_of : {A : Type 0} (P : A → Type 0) (x : A) (xs : List A) → Any P (x ∷ xs) → P x ⊎ Any P xs
any_of {A} P x xs a = go a.0 a.1 a.2 a.3 a.4
  where
    go : (k : ℕ) (y : A) → k < length (x ∷ xs) → slice_index_or (x ∷ xs) k y ≡ y → P y → P x ⊎ Any P xs
    go zero y l e p = inl (subst P (sym e) p)
    go (suc k) y l e p = inr (k, y, omega (arith, l), e, p)

any_none : {A : Type 0} (P : A → Type 0) → Any P [] → ⊥
any_none P a = let l = a.2 in (omega (arith, l))

-- an object in the place of another
pub any_first : {A : Type 0} (P : A → Type 0) (x y : A) (xs : List A) → (P y → P x) → Any P (y ∷ xs) → Any P (x ∷ xs)
any_first {A} P x y xs f a = go (any_of P y xs a)
  where
    go : P y ⊎ Any P xs → Any P (x ∷ xs)
    go (inl p) = any_here P x xs (f p)
    go (inr b) = any_later P x xs b

-- an object that is there, in the place of another
pub any_present : {A : Type 0} (P : A → Type 0) (o : Option A) (x y : A) (xs : List A) → o ≡ Some x → (P y → P x)
    → Any P (held_objects (Some y) xs) → Any P (held_objects o xs)
any_present {A} P o x y xs e f a = subst (λ (z : Option A). Any P (held_objects z xs)) (sym e) (any_first P x y xs f a)

-- a spare, in the place of another one
pub any_set : {A : Type 0} (P : A → Type 0) (x y : A) (xs : List A) → 0 < length xs → slice_index_or xs 0 x ≡ x → (P y → P x) → Any P (set xs 0 y) → Any P xs
any_set P x y [] l e f a = absurd (omega (arith, l))
any_set {A} P x y (z ∷ xs) l e f a = any_first P z y xs (λ p. subst P (sym e) (f p)) a

pub any_there : {A : Type 0} (P : A → Type 0) (o : Option A) (x : A) (xs : List A) → o ≡ Some x → P x → Any P (held_objects o xs)
any_there {A} P o x xs e p = subst (λ (z : Option A). Any P (held_objects z xs)) (sym e) (any_here P x xs p)

-- of the spares alone
pub any_spare : {A : Type 0} (P : A → Type 0) (o : Option A) (xs : List A) → Any P xs → Any P (held_objects o xs)
any_spare P None xs a = a
any_spare P (Some x) xs a = any_later P x xs a

pub none_of : {A : Type 0} (o : Option A) → is_some o ≡ false → o ≡ None
none_of None e = refl
none_of (Some x) e = absurd (cc (e))

pub any_at_0 : {A : Type 0} (P : A → Type 0) (o : Option A) (x : A) (xs : List A) → 0 < length xs → slice_index_or xs 0 x ≡ x → P x → Any P (held_objects o xs)
any_at_0 P o x xs l e p = any_spare P o xs (0, x, l, e, p)

-- a spare that has been taken out
pub any_removed : {A : Type 0} (P : A → Type 0) (o : Option A) (x y r : A) (xs left : List A) → 0 < length xs → slice_index_or xs 0 x ≡ x → (P y → P x)
    → r ≡ slice_index_or (set xs 0 y) 0 r → left ≡ remove (set xs 0 y) 0 → Any P (r ∷ left) → Any P (held_objects o xs)
any_removed P o x y r [] left l e f is rest a = absurd (omega (arith, l))
any_removed {A} P o x y r (z ∷ xs) left l e f is rest a =
    any_spare P o (z ∷ xs) (any_set P x y (z ∷ xs) l e f
    (subst (λ (k : List A). Any P (y ∷ k)) rest (subst (λ (b : A). Any P (b ∷ left)) is a)))

-- an act that fails leaves what it would restore
module _ {A : Type 0} (may_reject : A → List ℕ → Type 0) (objects : List A) (acts : List Act) (h : Holding) where
  pub rejected_after : (done : ℕ) (o : Option Content) (d : SavedStates) → Holds (does_all h (take done acts)) o d
      → Any (λ object. may_reject object d.permanent) objects → IsRejected may_reject objects h acts
  rejected_after done o d held any = record { done = done; saved = d.permanent; is = held.permanent; rejected = any }

none_done : (h : Holding) (acts : List Act) → does_all h (take 0 acts) ≡ h
none_done h [] = refl
none_done h (a ∷ acts) = refl

pub rejected_first : {A : Type 0} (may_reject : A → List ℕ → Type 0) (objects : List A) (acts : List Act) (h : Holding) (o : Option Content) (d : SavedStates)
    → Holds h o d → Any (λ object. may_reject object d.permanent) objects → IsRejected may_reject objects h acts
rejected_first may_reject objects acts h o d held any =
    rejected_after may_reject objects acts h 0 o d (subst (λ (x : Holding). Holds x o d) (sym (none_done h acts)) held) any

got_behind : {A : Type 0} (xs ys : List A) (x : A) (n : ℕ) → n ≡ length xs → slice_get (xs ++ x ∷ ys) n ≡ Some x
got_behind [] ys x zero e = refl
got_behind [] ys x (suc n) e = absurd (omega (arith, e))
got_behind (y ∷ xs) ys x zero e = absurd (omega (arith, e))
got_behind (y ∷ xs) ys x (suc n) e = got_behind xs ys x n (omega (arith, e))

module _ {R A : Type 0} (items : R → List A) (P : A → Type 0) (xs ys all : List R) (x : R) (split : (xs ++ x ∷ []) ++ ys ≡ all) where
  got_in : slice_get (map items all) (length xs) ≡ Some (items x)
  got_in = slice_get-map items all (length xs) ∙ ap (option_map items)
      (ap (λ (l : List R). slice_get l (length xs)) (sym split ∙ append_assoc xs (x ∷ []) ys) ∙ got_behind xs ys x (length xs) refl)

  -- the first object of a row, by what stands before it
  pub first_in : 0 < length (items x) → ((b : A) → slice_get (items x) 0 ≡ Some b → P b) → IsFirstObject P (map items all) (length xs)
  first_in some so = go (items x) refl
    where
      go : (l : List A) → items x ≡ l → IsFirstObject P (map items all) (length xs)
      go [] e = absurd (let n = ap length e in omega (arith, n, some))
      go (b ∷ more) e = record { object = b; spares = more; given = got_in ∙ ap Some e; so = so b (ap (λ (l : List A). slice_get l 0) e) }

  pub firsts_more : ((q : ℕ) → q < length xs → IsFirstObject P (map items all) q) → IsFirstObject P (map items all) (length xs)
      → (q : ℕ) → q < length (xs ++ x ∷ []) → IsFirstObject P (map items all) q
  firsts_more below here q l = below_more (λ (k : ℕ). IsFirstObject P (map items all) k) (length xs) below here q (let n = length-append xs (x ∷ []) in omega (arith, l, n))
