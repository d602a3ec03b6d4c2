-- Which spares are left.
use Rattle.std.specs.Prelude.{IsSome, IfSome, slice_get, Result, Ok, Err, OnOk}
use Rattle.std.specs.List.{AllZip}
use Rattle.std.proofs.Common.{◌≡◌, ◌∙◌, ℕ, ◌+◌, zero, suc, Option, Some, None, List, [], ◌∷◌, All, drop, set, refl, sym, ap, subst}
use Rattle.std.proofs.lemmas.List.{drop-drop}
use Rattle.std.proofs.lemmas.List.Elements.{All-head, All-tail}
use Rattle.kt_run.specs.Objects.{AreLeft}

left_first : {A : Type 0} (o : Option A) (all left : List A) → IsSome o → IfSome o (λ b. all ≡ b ∷ left) → AreLeft all left
left_first None all left there e = absurd (cc (there))
left_first (Some b) all left there e = (1, sym (ap (λ (l : List _). drop 1 l) e))

left_more : {A : Type 0} (xs ys zs : List A) → AreLeft xs ys → AreLeft ys zs → AreLeft xs zs
left_more xs ys zs a b = (a.0 + b.0, b.1 ∙ (ap (λ (l : List _). drop b.0 l) a.1 ∙ drop-drop b.0 a.0 xs))

module _ {A H : Type 0} (spares : H → List A) where
  abbrev pub Left : H → H → Type 0
  Left g h = AreLeft (spares g) (spares h)

  pub left_same : (hs : List H) → AllZip Left hs hs
  left_same [] = tt
  left_same (h ∷ hs) = ((0, refl), left_same hs)

  pub left_set : (hs : List H) (i : ℕ) (g h : H) → slice_get hs i ≡ Some g → Left g h → AllZip Left hs (set hs i h)
  left_set [] i g h at l = absurd (cc (at))
  left_set (x ∷ hs) zero g h at l = let e : x ≡ g = cc (at) in (subst (λ (z : H). Left z h) (sym e) l, left_same hs)
  left_set (x ∷ hs) (suc i) g h at l = ((0, refl), left_set hs i g h at l)

  -- of what is given, and later on
  module _ {R : Type 0} (items : R → List A) where
    pub left_then : (rows : List R) (gs hs : List H) → AllZip (λ row g. AreLeft (items row) (spares g)) rows gs → AllZip Left gs hs
        → AllZip (λ row h. AreLeft (items row) (spares h)) rows hs
    left_then [] [] [] a b = tt
    left_then [] [] (h ∷ hs) a b = absurd b
    left_then [] (g ∷ gs) hs a b = absurd a
    left_then (row ∷ rows) [] hs a b = absurd a
    left_then (row ∷ rows) (g ∷ gs) [] a b = absurd b
    left_then (row ∷ rows) (g ∷ gs) (h ∷ hs) a b = (left_more (items row) (spares g) (spares h) a.0 b.0, left_then rows gs hs a.1 b.1)

    pub left_given : (present : H → Option A) (rows : List R) (hs : List H) → AllZip (λ row h. IfSome (present h) (λ b. items row ≡ b ∷ spares h)) rows hs
        → All (λ h. IsSome (present h)) hs → AllZip (λ row h. AreLeft (items row) (spares h)) rows hs
    left_given present [] [] a there = tt
    left_given present [] (h ∷ hs) a there = absurd a
    left_given present (row ∷ rows) [] a there = absurd a
    left_given present (row ∷ rows) (h ∷ hs) a there = (
      left_first (present h) (items row) (spares h) (All-head (λ h. IsSome (present h)) h hs there) a.0,
      left_given present rows hs a.1 (All-tail (λ h. IsSome (present h)) h hs there),
    )

pub on_ok_so : {T E P Q : Type 0} (r : Result T E) → (P → Q) → OnOk r P → OnOk r Q
on_ok_so (Ok value) f h = f h
on_ok_so (Err fault) f h = tt
