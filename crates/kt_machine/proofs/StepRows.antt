-- What a step tells: its rows, whose they are, and its acts.
use Rattle.std.proofs.Common.{◌≡◌, ℕ, zero, suc, ◌≤◌, Bool, true, false, Some, None, List, [], ◌∷◌, ◌++◌, length, refl, arith, sym, ap, ◌∙◌}
use Rattle.std.specs.Prelude.{if◌then◌else◌, slice_get, is_some}
use Rattle.kt_spacetime.specs.Events.{process_of}
use Rattle.kt_spacetime.specs.declared.event.Event.{Event}
use Rattle.kt_protocol.specs.States.{ProtocolStep, opening}
use Rattle.kt_protocol.specs.LateSteps.{late_step, late_run}
use Rattle.kt_protocol.specs.KeptInOrder.{is_in_checkpoint}
use Rattle.kt_machine.specs.Done.{done}
use Rattle.kt_machine.specs.Values.{Rules, Due, due, acts_along}
use Rattle.kt_machine.specs.Acts.{acts_by, stepper}
use Rattle.kt_machine.proofs.AddedRows.{adds_step}
use Rattle.kt_machine.proofs.RunActs.{invariant_late, legal_next}
use Rattle.kt_machine.proofs.StateValues.{due_late}

rest : {X : Type 0} → List X → List X
rest [] = []
rest (x ∷ xs) = xs

cancel : {X : Type 0} (l xs ys : List X) → l ++ xs ≡ l ++ ys → xs ≡ ys
unfolding rest
cancel [] xs ys e = e
cancel (x ∷ l) xs ys e = cancel l xs ys (ap rest e)

pub told : (n : ℕ) (steps : List ProtocolStep) (x : ProtocolStep) (rows : List Event) (p : ℕ) → (late_step (late_run (opening n) steps) x).log ≡ (late_run (opening n) steps).log ++ rows → acts_along p (done (late_run (opening n) steps).log) rows ≡ acts_by p (late_run (opening n) steps) x
told n steps x rows p e =
    let a = adds_step (late_run (opening n) steps) x (invariant_late n steps) in
    ap (acts_along p (done (late_run (opening n) steps).log)) (sym (cancel (late_run (opening n) steps).log a.rows rows (sym a.log ∙ e))) ∙ a.acts (legal_next n steps x) p

get_past : {X : Type 0} (xs ys : List X) (i : ℕ) (x : X) → slice_get (xs ++ ys) i ≡ Some x → length xs ≤ i → (j : ℕ) × (slice_get ys j ≡ Some x)
get_past [] ys i x e l = (i, e)
get_past (y ∷ xs) ys zero x e l = absurd (omega (arith, l))
get_past (y ∷ xs) ys (suc i) x e l = get_past xs ys i x e (omega (arith, l))

pub by_one : (n : ℕ) (steps : List ProtocolStep) (x : ProtocolStep) (i : ℕ) (row : Event) → length (late_run (opening n) steps).log ≤ i → slice_get (late_step (late_run (opening n) steps) x).log i ≡ Some row → process_of row ≡ stepper x
by_one n steps x i row l e =
    let a = adds_step (late_run (opening n) steps) x (invariant_late n steps) in
    let j = get_past (late_run (opening n) steps).log a.rows i row (ap (λ (t : List Event). slice_get t i) (sym a.log) ∙ e) l in
    a.by j.0 row j.1

-- the log grows
pub grows : (n : ℕ) (steps : List ProtocolStep) (x : ProtocolStep) → (rows : List Event) × ((late_step (late_run (opening n) steps) x).log ≡ (late_run (opening n) steps).log ++ rows)
grows n steps x = let a = adds_step (late_run (opening n) steps) x (invariant_late n steps) in (a.rows, a.log)

some_if : {X : Type 0} (b : Bool) (x : X) → is_some (if b then Some x else None) ≡ b
some_if true x = refl
some_if false x = refl

-- who has an object, and a tentative state
pub has_object : {V : Type 0} (r : Rules V) (n : ℕ) (steps : List ProtocolStep) (p : ℕ) → is_some (due r (done (late_run (opening n) steps).log) p).object ≡ (late_run (opening n) steps).up p
has_object {V} r n steps p = ap (λ (d : Due V). is_some d.object) (sym (due_late n steps r p)) ∙ some_if ((late_run (opening n) steps).up p) _

pub has_tentative : {V : Type 0} (r : Rules V) (n : ℕ) (steps : List ProtocolStep) (p : ℕ) → is_some (due r (done (late_run (opening n) steps).log) p).tentative ≡ is_in_checkpoint (late_run (opening n) steps).so_far p
has_tentative {V} r n steps p = ap (λ (d : Due V). is_some d.tentative) (sym (due_late n steps r p)) ∙ some_if (is_in_checkpoint (late_run (opening n) steps).so_far p) _
