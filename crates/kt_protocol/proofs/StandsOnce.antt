-- Each live message that was not dropped stands once: received, held, or in its channel.
use Rattle.std.proofs.Common.{◌≡◌, ℕ, ◌+◌, ◌≤◌, ◌<◌, Bool, true, false, List, [], ◌∷◌, ◌++◌, refl, arith, subst, ◌∙◌}
use Rattle.std.specs.Prelude.{◌==◌, if◌then◌else◌}
use Rattle.std.proofs.lemmas.Bool.Decides.{nat_tests}
use Rattle.kt_spacetime.specs.declared.deeds.Deed.{Deed}
use Rattle.kt_spacetime.specs.declared.deeds.Deed.TheVariants as deed
use Rattle.kt_meaning.specs.Past.{Past}
use Rattle.kt_meaning.specs.Legal.{has_deed, is_deed}
use Rattle.kt_protocol.specs.Parcels.{messages}
use Rattle.kt_protocol.specs.States.{State}
use Rattle.kt_protocol.specs.InTransit.{times, IsInTransit, received_of, in_transit, NumbersRiseAbove, EachStandsOnce}
use Rattle.kt_protocol.proofs.Lines.{times_append}

none_below : (low m : ℕ) (l : List ℕ) → m ≤ low → NumbersRiseAbove low l → times m l ≡ 0
none_below low m [] e r = refl
none_below low m (x ∷ xs) e r = let a = r.0 in let b = none_below x m xs (omega (arith, e, a)) r.1 in grind (arith, nat_tests, a, b, e)

-- a number stands in a rising list once at most
once_at_most : (low m : ℕ) (l : List ℕ) → NumbersRiseAbove low l → times m l ≤ 1
once_at_most low m [] r = omega arith
once_at_most low m (x ∷ xs) r = go (x == m) refl (once_at_most x m xs r.1)
  where
    same : (a b : ℕ) → (a == b) ≡ true → b ≤ a
    same a b e = grind (arith, nat_tests, e)

    go : (b : Bool) → (x == m) ≡ b → times m xs ≤ 1 → (if b then 1 else 0) + times m xs ≤ 1
    go true e h = let a = none_below x m xs (same x m e) r.1 in omega (arith, a)
    go false e h = omega (arith, h)

-- a deed that a history has is among what it received
received_once : (m p : ℕ) (l : List Deed) → has_deed (deed.Received m p) l ≡ true → 0 < times m (received_of p l)
received_once m p [] h = absurd (cc (h))
received_once m p (deed.Sent n q ∷ xs) h = received_once m p xs h
received_once m p (deed.Received n q ∷ xs) h = go (received_once m p xs) (q == p) (n == m) refl refl
  where
    swapped : (a b : ℕ) (x : Bool) → (a == b) ≡ x → (b == a) ≡ x
    swapped a b true e = grind (arith, nat_tests, e)
    swapped a b false e = grind (arith, nat_tests, e)

    rest : (is_deed (deed.Received m p) (deed.Received n q) ≡ false) → has_deed (deed.Received m p) xs ≡ true
    rest e = rw e at h

    go : (has_deed (deed.Received m p) xs ≡ true → 0 < times m (received_of p xs)) → (a b : Bool) → (q == p) ≡ a → (n == m) ≡ b → 0 < times m (if a then n ∷ received_of p xs else received_of p xs)
    go ih true true e f = rw f (omega arith)
    go ih true false e f = rw f (let x = ih (rest (rw (swapped n m false f) refl)) in omega (arith, x))
    go ih false true e f = ih (rest (rw (swapped n m true f, swapped q p false e) refl))
    go ih false false e f = ih (rest (rw (swapped n m false f) refl))

pub stands_once : (h : Past) (s : State) → ((p : ℕ) → s.so_far.live p ≡ h.live p) → IsInTransit h s.channel s.held →
    ((q p : ℕ) → NumbersRiseAbove 0 (received_of q (s.so_far.live p) ++ in_transit s q p)) → EachStandsOnce h s
stands_once h s live under rises m p q sent kept = exact _ (once_at_most 0 m (received_of p (h.live q) ++ in_transit s p q) (subst (λ (l : List Deed). NumbersRiseAbove 0 (received_of p l ++ in_transit s p q)) (live q) (rises p q))) (there (has_deed (deed.Received m p) (h.live q)) refl)
  where
    exact : (x : ℕ) → x ≤ 1 → 0 < x → x ≡ 1
    exact x a b = omega (arith, a, b)

    both : times m (received_of p (h.live q) ++ in_transit s p q) ≡ times m (received_of p (h.live q)) + (times m (messages (s.held p q)) + times m (messages (s.channel p q)))
    both = let a = times_append m (received_of p (h.live q)) (in_transit s p q) in let b = times_append m (messages (s.held p q)) (messages (s.channel p q)) in omega (arith, a, b)

    there : (b : Bool) → has_deed (deed.Received m p) (h.live q) ≡ b → 0 < times m (received_of p (h.live q) ++ in_transit s p q)
    there true e = let a = received_once m p (h.live q) e in omega (arith, a, both)
    there false e =
        let a : times m (messages (s.channel p q)) + times m (messages (s.held p q)) ≡ 1 = under m p q ∙ rw (sent, e, kept) refl in
        omega (arith, a, both)
