-- The places of a message, as the tables have them.
use Rattle.std.proofs.Common.{◌≡◌, ℕ, suc, ◌+◌, if◌then◌else◌, Bool, true, false, Option, Some, None, option_map, List, [], ◌∷◌, refl, sym, ap, subst, arith, zero, ◌∙◌}
use Rattle.std.specs.List.{slice_get}
use Rattle.std.specs.Option.{option_flatten}
use Rattle.kt_spacetime.specs.declared.event.Event.{Event}
use Rattle.kt_spacetime.specs.declared.deeds.Deed.{Deed}
use Rattle.kt_spacetime.specs.declared.deeds.Deed.TheVariants as deed
use Rattle.kt_rules.specs.declared.traces.Trace.{Trace}
use Rattle.kt_meaning.specs.Past.{past}
use Rattle.kt_meaning.specs.Legal.{is_deed}
use Rattle.kt_meaning.specs.Messages.{row_at}
use Rattle.kt_rules.specs.Standing.{parties_of_row}
use Rattle.kt_rules.specs.Traces.{place_of, trace_between, trace_of}
use Rattle.kt_meaning.proofs.Items.{some_same}
use Rattle.kt_meaning.proofs.DeedFacts.{same_deed}
use Rattle.kt_rules.proofs.DeedFacts.{is_same}

-- a place that is found, counted from 1
pub place_found : (d : Deed) (l : List Deed) (n : ℕ) → place_of d l ≡ Some n → (i : ℕ) × (n ≡ i + 1) × (slice_get l i ≡ Some d)
place_found d [] n e = absurd (cc)
place_found d (x ∷ l) n e = at_test (is_deed d x) refl e (place_found d l)
  where
    at_test : (b : Bool) → is_deed d x ≡ b → (if b then Some 1 else option_map suc (place_of d l)) ≡ Some n → ((m : ℕ) → place_of d l ≡ Some m → (i : ℕ) × (m ≡ i + 1) × (slice_get l i ≡ Some d)) → (i : ℕ) × (n ≡ i + 1) × (slice_get (x ∷ l) i ≡ Some d)
    at_test true is e rest = (0, sym (some_same e), ap Some (same_deed d x is))
    at_test false is e rest = later (place_of d l) refl e rest
      where
        later : (o : Option ℕ) → place_of d l ≡ o → option_map suc o ≡ Some n → ((m : ℕ) → place_of d l ≡ Some m → (i : ℕ) × (m ≡ i + 1) × (slice_get l i ≡ Some d)) → (i : ℕ) × (n ≡ i + 1) × (slice_get (x ∷ l) i ≡ Some d)
        later None p e rest = absurd (cc)
        later (Some m) p e rest =
            let there = rest m p in
            let next : suc m ≡ n = some_same e in
            (suc there.0, omega (arith, there.1, next), there.2)

-- what a trace says
pub trace_parts : (rows : List Event) (m : ℕ) (t : Trace) → trace_of rows m ≡ Some t
    → (t.sent ≡ place_of (deed.Sent m t.to) ((past rows).live t.from)) × (t.received ≡ place_of (deed.Received m t.from) ((past rows).live t.to))
trace_parts rows m t e = between (option_flatten (option_map parties_of_row (row_at rows m))) e
  where
    between : (o : Option (ℕ × ℕ)) → trace_between (past rows) m o ≡ Some t → (t.sent ≡ place_of (deed.Sent m t.to) ((past rows).live t.from)) × (t.received ≡ place_of (deed.Received m t.from) ((past rows).live t.to))
    between None e = absurd (cc)
    between (Some (p, q)) e =
        let same = some_same e in
        (subst (λ (x : Trace). x.sent ≡ place_of (deed.Sent m x.to) ((past rows).live x.from)) same refl, subst (λ (x : Trace). x.received ≡ place_of (deed.Received m x.from) ((past rows).live x.to)) same refl)

pub never : false ≡ true → ⊥
never e = cc

-- a deed that stands at one place alone
pub place_at : (d : Deed) (l : List Deed) (i : ℕ) → slice_get l i ≡ Some d → ((j : ℕ) → slice_get l j ≡ Some d → j ≡ i) → place_of d l ≡ Some (i + 1)
place_at d [] i e one = absurd (cc)
place_at d (x ∷ l) zero e one =
    let same : x ≡ d = some_same e in
    rw (same, is_same d) refl
place_at d (x ∷ l) (suc i) e one = at_test (is_deed d x) refl (place_at d l i e (λ j h. suc_same j i (one (suc j) h)))
  where
    suc_same : (j i : ℕ) → suc j ≡ suc i → j ≡ i
    suc_same j i h = omega (arith, h)

    at_test : (b : Bool) → is_deed d x ≡ b → place_of d l ≡ Some (i + 1) → place_of d (x ∷ l) ≡ Some (suc i + 1)
    at_test true is rest =
        let here : zero ≡ suc i = one 0 (ap Some (same_deed d x is)) in
        absurd (omega (arith, here))
    at_test false is rest =
        let number : suc (i + 1) ≡ suc i + 1 = omega arith in
        ap (λ (b : Bool). if b then Some 1 else option_map suc (place_of d l)) is ∙ (ap (option_map suc) rest ∙ ap Some number)

pub place_none : (d : Deed) (l : List Deed) → ((i : ℕ) → slice_get l i ≡ Some d → ⊥) → place_of d l ≡ None
place_none d [] never = refl
place_none d (x ∷ l) never = at_test (is_deed d x) refl (place_none d l (λ i. never (suc i)))
  where
    at_test : (b : Bool) → is_deed d x ≡ b → place_of d l ≡ None → place_of d (x ∷ l) ≡ None
    at_test true is rest = absurd (never 0 (ap Some (same_deed d x is)))
    at_test false is rest = ap (λ (b : Bool). if b then Some 1 else option_map suc (place_of d l)) is ∙ ap (option_map suc) rest
