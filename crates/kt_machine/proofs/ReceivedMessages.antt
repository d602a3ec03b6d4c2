-- The messages that a history receives.
use Rattle.std.proofs.Common.{◌≡◌, ℕ, zero, suc, ◌+◌, ◌<◌, Bool, true, false, Some, List, [], ◌∷◌, ◌++◌, refl, arith, ap, ap₂}
use Rattle.std.specs.Prelude.{◌==◌, ◌&&◌, ◌||◌, if◌then◌else◌, slice_get}
use Rattle.std.proofs.lemmas.Bool.Decides.{nat_tests}
use Rattle.kt_spacetime.specs.declared.deeds.Deed.{Deed}
use Rattle.kt_spacetime.specs.declared.deeds.Deed.TheVariants as deed
use Rattle.kt_meaning.specs.Legal.{has_deed, is_deed}
use Rattle.kt_meaning.proofs.Lists.{has_from_place}
use Rattle.kt_protocol.specs.InTransit.{times, received_of}
use Rattle.kt_machine.proofs.KnownDeeds.{IsKnown}

pub got_append : (p : ℕ) (a b : List Deed) → received_of p (a ++ b) ≡ received_of p a ++ received_of p b
got_append p [] b = refl
got_append p (deed.Sent m to ∷ a) b = got_append p a b
got_append p (deed.Received m from ∷ a) b = go (from == p) (got_append p a b)
  where
    go : (t : Bool) → received_of p (a ++ b) ≡ received_of p a ++ received_of p b → (if t then m ∷ received_of p (a ++ b) else received_of p (a ++ b)) ≡ (if t then m ∷ received_of p a else received_of p a) ++ received_of p b
    go true e = ap (λ (l : List ℕ). m ∷ l) e
    go false e = e

-- one that stands there has a place
pub got_place : (p m : ℕ) (l : List Deed) → 0 < times m (received_of p l) → (i : ℕ) × (slice_get l i ≡ Some (deed.Received m p))
got_place p m [] h = absurd (omega (arith, h))
got_place p m (deed.Sent n to ∷ l) h = let r = got_place p m l h in (suc r.0, r.1)
got_place p m (deed.Received n from ∷ l) h = go (from == p) refl (λ x. got_place p m l x) h
  where
    go : (t : Bool) → (from == p) ≡ t → (0 < times m (received_of p l) → (i : ℕ) × (slice_get l i ≡ Some (deed.Received m p))) → 0 < times m (if t then n ∷ received_of p l else received_of p l) → (i : ℕ) × (slice_get (deed.Received n from ∷ l) i ≡ Some (deed.Received m p))
    go false e f h = let r = f h in (suc r.0, r.1)
    go true e f h = at (n == m) refl h
      where
        at : (b : Bool) → (n == m) ≡ b → 0 < (if b then 1 else 0) + times m (received_of p l) → (i : ℕ) × (slice_get (deed.Received n from ∷ l) i ≡ Some (deed.Received m p))
        at true d h = let x : n ≡ m = grind (arith, nat_tests) in let y : from ≡ p = grind (arith, nat_tests) in (0, ap₂ (λ (a b : ℕ). Some (deed.Received a b)) x y)
        at false d h = let r = f (omega (arith, h)) in (suc r.0, r.1)

none_there : (n : ℕ) → (0 < n → ⊥) → n ≡ 0
none_there zero f = refl
none_there (suc n) f = absurd (f (omega arith))

-- one with no place doesn't stand there
pub got_none : (p m : ℕ) (l : List Deed) → has_deed (deed.Received m p) l ≡ false → times m (received_of p l) ≡ 0
got_none p m l e = none_there (times m (received_of p l)) (λ h. let r = got_place p m l h in let t = has_from_place (deed.Received m p) l r.0 r.1 in absurd (cc (t, e)))

-- one with one place stands there once
pub got_once : (p m : ℕ) (l : List Deed) → ((i j : ℕ) → slice_get l i ≡ Some (deed.Received m p) → slice_get l j ≡ Some (deed.Received m p) → i ≡ j) → times m (received_of p l) ≡ (if has_deed (deed.Received m p) l then 1 else 0)
got_once p m [] u = refl
got_once p m (deed.Sent n to ∷ l) u = got_once p m l (λ i j a b. let x = u (suc i) (suc j) a b in omega (arith, x))
got_once p m (deed.Received n from ∷ l) u = go (from == p) refl (n == m) refl (got_once p m l (λ i j a b. let x = u (suc i) (suc j) a b in omega (arith, x)))
  where
    test : (s t : Bool) → (from == p) ≡ s → (n == m) ≡ t → is_deed (deed.Received m p) (deed.Received n from) ≡ (t && s)
    test true true e d = grind (arith, nat_tests, e, d)
    test true false e d = grind (arith, nat_tests, e, d)
    test false true e d = grind (arith, nat_tests, e, d)
    test false false e d = grind (arith, nat_tests, e, d)

    go : (s : Bool) → (from == p) ≡ s → (t : Bool) → (n == m) ≡ t → times m (received_of p l) ≡ (if has_deed (deed.Received m p) l then 1 else 0) → times m (if s then n ∷ received_of p l else received_of p l) ≡ (if is_deed (deed.Received m p) (deed.Received n from) || has_deed (deed.Received m p) l then 1 else 0)
    go false e t d r = rw (test false t e d) (both t r)
      where
        both : (t : Bool) → times m (received_of p l) ≡ (if has_deed (deed.Received m p) l then 1 else 0) → times m (received_of p l) ≡ (if (t && false) || has_deed (deed.Received m p) l then 1 else 0)
        both true r = r
        both false r = r
    go true e false d r = rw (test true false e d, d) (omega (arith, r))
    go true e true d r =
        let x : n ≡ m = grind (arith, nat_tests) in
        let y : from ≡ p = grind (arith, nat_tests) in
        let z : times m (received_of p l) ≡ 0 = none_there (times m (received_of p l)) (λ h. let r = got_place p m l h in let w = u 0 (suc r.0) (ap₂ (λ (a b : ℕ). Some (deed.Received a b)) x y) r.1 in absurd (omega (arith, w))) in
        rw (test true true e d, d) (omega (arith, z))

-- the numbers there are known ones
pub got_known : (n p m : ℕ) (l : List Deed) → IsKnown n l → n < m → times m (received_of p l) ≡ 0
unfolding IsKnown
got_known n p m [] k h = refl
got_known n p m (deed.Sent j to ∷ l) k h = got_known n p m l k.1 h
got_known n p m (deed.Received j from ∷ l) k h = go (from == p) (got_known n p m l k.1 h)
  where
    go : (t : Bool) → times m (received_of p l) ≡ 0 → times m (if t then j ∷ received_of p l else received_of p l) ≡ 0
    go false e = e
    go true e = let d : (j == m) ≡ false = grind (arith, nat_tests, k.0, h) in rw d (omega (arith, e))
