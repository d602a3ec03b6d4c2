-- The row that decides an instance with a member that lacks a chain.
use Rattle.std.proofs.Common.{◌≡◌, ◌∙◌, ℕ, ◌==◌, Bool, true, Some, List, refl, ap, subst, arith}
use Rattle.std.proofs.lemmas.Bool.Decides.{nat_tests}
use Rattle.kt_spacetime.specs.declared.event.Event.{Event}
use Rattle.kt_spacetime.specs.declared.event.Event.TheVariants.{Sent, Received, Dropped, Began, Took, Ready, Unwilling, Decided, Closed, Failed, Refused}
use Rattle.kt_meaning.specs.Legal.{IsLegal}
use Rattle.kt_meaning.specs.Fitness.{IsFirstWithout, IsUnfit, IsWhyUnfit}
use Rattle.kt_spacetime.specs.declared.unfit.CertFault.TheVariants as fault
use Rattle.kt_spacetime.specs.declared.unfit.Unfit.TheVariants as unfit
use Rattle.kt_meaning.proofs.Deciding.{decided_once}
use Rattle.kt_histories.specs.Finding.{HasNoRow, IsFirstNumber, decides_inst}

same_number : (a b : ℕ) → (a == b) ≡ true → a ≡ b
same_number a b e = grind (arith, nat_tests, e)

decided_row : (k : ℕ) (row : Event) → decides_inst k row ≡ true → (p : ℕ) × (commit : Bool) × (row ≡ Decided p k commit)
decided_row k (Decided p j commit) e = (p, commit, ap (λ (n : ℕ). Decided p n commit) (same_number j k e))
decided_row k (Sent p to body) e = absurd (cc)
decided_row k (Received p from msg) e = absurd (cc)
decided_row k (Dropped p from msg) e = absurd (cc)
decided_row k (Began p j kind) e = absurd (cc)
decided_row k (Took p j) e = absurd (cc)
decided_row k (Ready p j) e = absurd (cc)
decided_row k (Unwilling p j cause) e = absurd (cc)
decided_row k (Closed p j) e = absurd (cc)
decided_row k (Failed p) e = absurd (cc)
decided_row k (Refused p verb cause) e = absurd (cc)

decides_it : (p k : ℕ) → decides_inst k (Decided p k true) ≡ true
decides_it p k = grind (arith, nat_tests)

-- it is the first row that decides it
pub unfit_at : (rows : List Event) (k p number : ℕ) → IsWhyUnfit rows (fault.NoChain k p) → IsFirstNumber (decides_inst k) rows (Some number) → IsUnfit rows (unfit.NoChain k number p)
unfit_at rows k p number (legal, row, without) (event, first) =
    let is = decided_row k event first.passes in
    let there = first.row_is ∙ ap (λ (e : Event). Some e) is.2 in
    let same = decided_once rows first.place without.lacks.row is.0 without.lacks.decider k is.1 true legal there without.lacks.decided in
    let equal : row ≡ number = omega (arith, first.number_is, without.number, same) in
    (legal, subst (λ (n : ℕ). IsFirstWithout rows k n p) equal without)

-- there is one
pub decided_somewhere : (rows : List Event) (k p : ℕ) → IsWhyUnfit rows (fault.NoChain k p) → HasNoRow (decides_inst k) rows → ⊥
decided_somewhere rows k p (legal, row, without) none =
    none without.lacks.row (Decided without.lacks.decider k true) without.lacks.decided (decides_it without.lacks.decider k)
