-- Functions changed at one place.
use Rattle.std.proofs.Common.{◌≡◌, ◌≢◌, ℕ, Bool, true, false, List, [], ◌∷◌, ◌++◌, length, refl, arith, subst, inl, inr, ◌⊎◌, Some}
use Rattle.std.specs.Prelude.{◌==◌, if◌then◌else◌, slice_get}
use Rattle.std.proofs.lemmas.Bool.Decides.{nat_tests}
use Rattle.kt_spacetime.specs.declared.deeds.Deed.{Deed}
use Rattle.kt_meaning.specs.Past.{at_one, at_pair}
use Rattle.kt_protocol.proofs.EachRow.{get-push, get-push_new, get-push_old}

same : (a b : ℕ) → (a == b) ≡ true → b ≡ a
same a b e = grind (arith, nat_tests)

pub is_same : (a : ℕ) → (a == a) ≡ true
is_same a = grind (arith, nat_tests)

pub is_other : (a b : ℕ) → a ≢ b → (a == b) ≡ false
is_other a b n = grind (arith, nat_tests)

pub at_one_all : {X : Type 0} (P : ℕ → X → Type 0) (p : ℕ) (x : X) (f : ℕ → X) → P p x → ((q : ℕ) → P q (f q)) → (q : ℕ) → P q (at_one p x f q)
at_one_all {X} P p x f here others q = go (q == p) refl
  where
    go : (a : Bool) → (q == p) ≡ a → P q (if a then x else f q)
    go true e = subst (λ (u : ℕ). P u x) (same q p e) here
    go false e = others q

pub at_one_here : {X : Type 0} (p : ℕ) (x : X) (f : ℕ → X) → at_one p x f p ≡ x
at_one_here p x f = rw (is_same p) refl

pub at_one_other : {X : Type 0} (p q : ℕ) (x : X) (f : ℕ → X) → q ≢ p → at_one p x f q ≡ f q
at_one_other p q x f n = rw (is_other q p n) refl

-- places of the longer history
pub place_old : (live : ℕ → List Deed) (p : ℕ) (d : Deed) (u i : ℕ) (e : Deed) → slice_get (live u) i ≡ Some e → slice_get (at_one p (live p ++ d ∷ []) live u) i ≡ Some e
place_old live p d u i e h = at_one_all (λ q l. slice_get (live q) i ≡ Some e → slice_get l i ≡ Some e) p (live p ++ d ∷ []) live (get-push_old (live p) d i e) (λ q x. x) u h

pub place_cases : (live : ℕ → List Deed) (p : ℕ) (d : Deed) (u i : ℕ) (e : Deed) → slice_get (at_one p (live p ++ d ∷ []) live u) i ≡ Some e → (slice_get (live u) i ≡ Some e) ⊎ ((u ≡ p) × (i ≡ length (live p)) × (d ≡ e))
place_cases live p d u i e h = at_one_all (λ q l. slice_get l i ≡ Some e → (slice_get (live q) i ≡ Some e) ⊎ ((q ≡ p) × (i ≡ length (live p)) × (d ≡ e))) p (live p ++ d ∷ []) live
    (λ x. elim (get-push (live p) d i e x) [ inl a ↦ inl a | inr b ↦ inr (refl, b.0, b.1) ]) (λ q x. inl x) u h

pub place_new : (live : ℕ → List Deed) (p : ℕ) (d : Deed) (n : ℕ) → n ≡ length (live p) → slice_get (at_one p (live p ++ d ∷ []) live p) n ≡ Some d
place_new live p d n e = rw (e, at_one_here p (live p ++ d ∷ []) live) (get-push_new (live p) d)

pub at_pair_here : {X : Type 0} (k p : ℕ) (x : X) (f : ℕ → ℕ → X) → at_pair k p x f k p ≡ x
at_pair_here k p x f = rw (is_same k, is_same p) refl
