-- Deeds whose messages have numbers of earlier rows, and values over them.
use Rattle.std.proofs.Common.{◌≡◌, ℕ, ℤ, zero, suc, ◌≤◌, Bool, true, false, List, [], ◌∷◌, ◌++◌, take, refl, arith, ap, ◌∙◌}
use Rattle.std.specs.Prelude.{fold, ◌||◌}
use Rattle.std.proofs.lemmas.Bool.Decides.{nat_tests}
use Rattle.kt_spacetime.specs.declared.deeds.Deed.{Deed}
use Rattle.kt_spacetime.specs.declared.deeds.Deed.TheVariants as deed
use Rattle.kt_meaning.specs.Legal.{is_deed, has_deed}
use Rattle.kt_machine.specs.Values.{Rules, after_deed}

abbrev pub number : Deed → ℕ
number (deed.Sent m to) = m
number (deed.Received m from) = m

unfoldable pub IsKnown : ℕ → List Deed → Type 0
IsKnown n [] = Unit {0}
IsKnown n (d ∷ ds) = (number d ≤ n) × IsKnown n ds

pub known_more : (a b : ℕ) (ds : List Deed) → a ≤ b → IsKnown a ds → IsKnown b ds
unfolding IsKnown
known_more a b [] l k = tt
known_more a b (d ∷ ds) l k = (omega (arith, l, k.0), known_more a b ds l k.1)

pub known_none : (n : ℕ) → IsKnown n []
unfolding IsKnown
known_none n = tt

pub known_push : (n : ℕ) (ds : List Deed) (d : Deed) → IsKnown n ds → number d ≤ n → IsKnown n (ds ++ d ∷ [])
unfolding IsKnown
known_push n [] d k l = (l, tt)
known_push n (e ∷ ds) d k l = (k.0, known_push n ds d k.1 l)

pub known_take : (n i : ℕ) (ds : List Deed) → IsKnown n ds → IsKnown n (take i ds)
unfolding IsKnown
known_take n zero ds k = tt
known_take n (suc i) [] k = tt
known_take n (suc i) (d ∷ ds) k = (k.0, known_take n i ds k.1)

same_number : (d e : Deed) → is_deed d e ≡ true → number d ≡ number e
same_number (deed.Sent m p) (deed.Sent n q) e = grind (arith, nat_tests, e)
same_number (deed.Received m p) (deed.Received n q) e = grind (arith, nat_tests, e)
same_number (deed.Sent m p) (deed.Received n q) e = absurd (cc (e))
same_number (deed.Received m p) (deed.Sent n q) e = absurd (cc (e))

pub known_has : (n : ℕ) (d : Deed) (ds : List Deed) → IsKnown n ds → has_deed d ds ≡ true → number d ≤ n
unfolding IsKnown
known_has n d [] k h = absurd (cc (h))
known_has n d (e ∷ ds) k h = go (is_deed d e) refl (λ x. known_has n d ds k.1 x) h
  where
    go : (b : Bool) → is_deed d e ≡ b → (has_deed d ds ≡ true → number d ≤ n) → (b || has_deed d ds) ≡ true → number d ≤ n
    go true s f h = let x = same_number d e s in omega (arith, x, k.0)
    go false s f h = f h

-- two ways to give bodies that agree on these
pub value_same : {V : Type 0} (r : Rules V) (f g : ℕ → ℤ) (n : ℕ) (ds : List Deed) → IsKnown n ds → ((m : ℕ) → m ≤ n → f m ≡ g m) → (v : V) → fold (after_deed r f) v ds ≡ fold (after_deed r g) v ds
unfolding IsKnown
value_same r f g n [] k e v = refl
value_same r f g n (deed.Sent m to ∷ ds) k e v = value_same r f g n ds k.1 e v
value_same r f g n (deed.Received m from ∷ ds) k e v = ap (λ (b : ℤ). fold (after_deed r f) (r.after v from b) ds) (e m k.0) ∙ value_same r f g n ds k.1 e (r.after v from (g m))
