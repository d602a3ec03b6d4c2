-- The acts of each step, and of a whole run, lead from what is due before to what is due after.
use Rattle.std.proofs.Common.{◌≡◌, ℕ, List, [], ◌∷◌, ◌++◌, refl, sym, ap, subst, ◌∙◌}
use Rattle.kt_spacetime.specs.declared.event.Event.{Event}
use Rattle.kt_meaning.specs.Legal.{IsLegal}
use Rattle.kt_protocol.specs.States.{State, ProtocolStep, opening}
use Rattle.kt_protocol.specs.Steps.{run}
use Rattle.kt_protocol.proofs.Invariant.{Invariant}
use Rattle.kt_protocol.proofs.Walk.{invariant_after_run}
use Rattle.kt_protocol.proofs.LawfulSteps.{lawful_after_run}
use Rattle.kt_protocol.specs.LateSteps.{late_step, late_run}
use Rattle.kt_protocol.specs.OnceClosed.{once_closed}
use Rattle.kt_protocol.proofs.LateWholeSteps.{once_closed_run}
use Rattle.kt_machine.specs.Done.{done, done_start}
use Rattle.kt_machine.specs.Values.{Rules, Due, due, first_due, does_all, acts_along}
use Rattle.kt_machine.specs.Acts.{acts_by, acts_through}
use Rattle.kt_machine.proofs.ActsAlong.{along, does_more}
use Rattle.kt_machine.proofs.AddedRows.{adds_step}

-- a run and its next step
pub run_more : (c : State) (xs ys : List ProtocolStep) → late_run c (xs ++ ys) ≡ late_run (late_run c xs) ys
run_more c [] ys = refl
run_more c (x ∷ xs) ys = run_more (late_step c x) xs ys

pub same_state : (n : ℕ) (steps : List ProtocolStep) → once_closed (late_run (opening n) steps) ≡ run (opening n) steps
same_state n steps = once_closed_run n steps

pub invariant_late : (n : ℕ) (steps : List ProtocolStep) → Invariant (once_closed (late_run (opening n) steps))
invariant_late n steps = subst Invariant (sym (same_state n steps)) (invariant_after_run n steps)

pub legal_late : (n : ℕ) (steps : List ProtocolStep) → IsLegal (late_run (opening n) steps).log
legal_late n steps = subst (λ (s : State). IsLegal s.log) (sym (same_state n steps)) (lawful_after_run n steps).legal

-- a step from a state of a run
pub step_law : {V : Type 0} (r : Rules V) (c : State) (x : ProtocolStep) (u : ℕ) → Invariant (once_closed c) → IsLegal (late_step c x).log → does_all r (due r (done c.log) u) (acts_by u c x) ≡ due r (done (late_step c x).log) u
step_law {V} r c x u g l =
    let a = adds_step c x g in
    ap (does_all r (due r (done c.log) u)) (sym (a.acts l u)) ∙ (along r c.log a.rows u (subst IsLegal a.log l) ∙ ap (λ (log : List Event). due r (done log) u) (sym a.log))

pub legal_next : (n : ℕ) (steps : List ProtocolStep) (x : ProtocolStep) → IsLegal (late_step (late_run (opening n) steps) x).log
legal_next n steps x = subst (λ (s : State). IsLegal s.log) (run_more (opening n) steps (x ∷ [])) (legal_late n (steps ++ x ∷ []))

pub step_of_run : {V : Type 0} (r : Rules V) (n : ℕ) (steps : List ProtocolStep) (x : ProtocolStep) (u : ℕ) → does_all r (due r (done (late_run (opening n) steps).log) u) (acts_by u (late_run (opening n) steps) x) ≡ due r (done (late_step (late_run (opening n) steps) x).log) u
step_of_run r n steps x u = step_law r (late_run (opening n) steps) x u (invariant_late n steps) (legal_next n steps x)

run_from : {V : Type 0} (r : Rules V) (n : ℕ) (u : ℕ) (before xs : List ProtocolStep) → does_all r (due r (done (late_run (opening n) before).log) u) (acts_through u (late_run (opening n) before) xs) ≡ due r (done (late_run (late_run (opening n) before) xs).log) u
run_from r n u before [] = refl
run_from {V} r n u before (x ∷ xs) =
    let c = late_run (opening n) before in
    let e : late_run (opening n) (before ++ x ∷ []) ≡ late_step c x = run_more (opening n) before (x ∷ []) in
    does_more r (due r (done c.log) u) (acts_by u c x) (acts_through u (late_step c x) xs)
    ∙ (ap (λ (d : Due V). does_all r d (acts_through u (late_step c x) xs)) (step_of_run r n before x u)
    ∙ subst (λ (s : State). does_all r (due r (done s.log) u) (acts_through u s xs) ≡ due r (done (late_run s xs).log) u) e (run_from r n u (before ++ x ∷ []) xs))

pub first : {V : Type 0} (r : Rules V) (u : ℕ) → due r (done []) u ≡ first_due r
first r u = refl

pub whole_run : {V : Type 0} (r : Rules V) (n : ℕ) (steps : List ProtocolStep) (u : ℕ) → does_all r (first_due r) (acts_through u (opening n) steps) ≡ due r (done (late_run (opening n) steps).log) u
whole_run r n steps u = run_from r n u [] steps

pub whole_log : {V : Type 0} (r : Rules V) (log : List Event) (u : ℕ) → IsLegal log → does_all r (first_due r) (acts_along u done_start log) ≡ due r (done log) u
whole_log r log u l = along r [] log u l
