-- The asks of who joins, as the rules have them.
use Rattle.std.proofs.Common.{◌≡◌, ◌∙◌, ℕ, zero, suc, ◌<◌, Bool, true, false, Option, Some, None, [], ◌∷◌, length, drop, get_or, ◌+◌, refl, arith, sym, ap}
use Rattle.std.specs.Prelude.{◌==◌, if◌then◌else◌, Contains}
use Rattle.std.proofs.lemmas.Bool.Decides.{nat_tests}
use Rattle.kt_base.specs.declared.words.Kind.{Kind}
use Rattle.kt_tables.specs.Peers.{IsCohort}
use Rattle.kt_process.specs.Asks.{is_asked_in}
use Rattle.kt_process.proofs.Cohorts.{Pairs, cohort_asked}
use Rattle.kt_spacetime.specs.declared.names.InstName.{InstName}
use Rattle.kt_manager.specs.declared.parcels.NodeParcel.TheVariants.{Ask}
use Rattle.kt_manager.specs.Effects.{label_for, ask_with}

same_number : (a b : ℕ) → (a == b) ≡ true → a ≡ b
same_number a b e = grind (arith, nat_tests)

found_in : (xs : Pairs) (q l : ℕ) → label_for xs q ≡ Some l → Contains xs (q, l)
found_in [] q l e = absurd (cc (e))
found_in (x ∷ xs) q l e = at_test (x.0 == q) refl e (λ f. found_in xs q l f)
  where
    at_test : (b : Bool) → (x.0 == q) ≡ b → (if b then Some x.1 else label_for xs q) ≡ Some l → (label_for xs q ≡ Some l → Contains xs (q, l)) → Contains (x ∷ xs) (q, l)
    at_test true t f more =
        let i : x.0 ≡ q = same_number x.0 q t in
        let j : x.1 ≡ l = cc in
        (0, (let k : 0 < length (x ∷ xs) = omega arith in k), (λ a. (i a, j a)))
    at_test false t f more =
        let h = more f in
        (suc h.0, (let b = h.1 in let k : suc h.0 < length (x ∷ xs) = omega arith in k), h.2)

unfound : (xs : Pairs) (q : ℕ) → label_for xs q ≡ None → is_asked_in xs q ≡ false
unfound [] q e = refl
unfound (x ∷ xs) q e = at_test (x.0 == q) refl e (λ f. unfound xs q f)
  where
    at_test : (b : Bool) → (x.0 == q) ≡ b → (if b then Some x.1 else label_for xs q) ≡ None → (label_for xs q ≡ None → is_asked_in xs q ≡ false) → is_asked_in (x ∷ xs) q ≡ false
    at_test true t f more = absurd (cc (f))
    at_test false t f more = rw t (more f)

-- the label at a place, or behind it
pub label_at : (xs : Pairs) (i q : ℕ) (d : ℕ × ℕ) → i < length xs → label_for (drop i xs) q ≡ (if (get_or xs i d).0 == q then Some (get_or xs i d).1 else label_for (drop (i + 1) xs) q)
label_at [] i q d b = absurd (omega arith)
label_at (x ∷ xs) zero q d b = refl
label_at (x ∷ xs) (suc i) q d b =
    let h = label_at xs i q d (omega arith) in
    let on : suc i + 1 ≡ suc (i + 1) = omega arith in
    h ∙ ap (λ (n : ℕ). if (get_or xs i d).0 == q then Some (get_or xs i d).1 else label_for (drop n (x ∷ xs)) q) (sym on)

pub none_left : (xs : Pairs) (q : ℕ) → label_for (drop (length xs) xs) q ≡ None
none_left [] q = refl
none_left (x ∷ xs) q = none_left xs q

-- each process that passes has its ask
pub asks_put : (k : InstName) (kind : Kind) (asks : Pairs) (test : ℕ → Bool) (label : ℕ → ℕ) → IsCohort asks test label → (q : ℕ) →
    ask_with k kind (label_for asks q) ≡ (if test q then Ask k kind (label q) ∷ [] else [])
asks_put k kind asks test label c q = at_label (label_for asks q) refl
  where
    at_label : (o : Option ℕ) → label_for asks q ≡ o → ask_with k kind o ≡ (if test q then Ask k kind (label q) ∷ [] else [])
    at_label None e = let t : test q ≡ false = sym (cohort_asked asks test label c q) ∙ unfound asks q e in rw t refl
    at_label (Some l) e = let h = (c.members q l).0 (found_in asks q l e) in let t : test q ≡ true = h.0 in rw (t, h.1) refl

-- where there is none nobody passes
pub none_asked : (asks : Pairs) (test : ℕ → Bool) (label : ℕ → ℕ) → IsCohort asks test label → asks ≡ [] → (q : ℕ) → test q ≡ false
none_asked asks test label c e q = sym (cohort_asked asks test label c q) ∙ ap (λ (l : Pairs). is_asked_in l q) e
