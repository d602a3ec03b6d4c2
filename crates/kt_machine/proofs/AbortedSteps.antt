-- What closing an aborted instance does to what is due.
use Rattle.std.proofs.Common.{◌≡◌, ℕ, zero, suc, ◌≤◌, Bool, true, false, Some, List, [], ◌∷◌, ◌++◌, length, refl, arith, sym, ap, subst, ◌∙◌}
use Rattle.std.specs.Prelude.{◌==◌, if◌then◌else◌, slice_get}
use Rattle.kt_spacetime.specs.declared.event.Event.{Event}
use Rattle.kt_spacetime.specs.declared.event.Event.TheVariants.{Closed}
use Rattle.kt_meaning.specs.Past.{Past, past, after, is_rollback, is_committed}
use Rattle.kt_meaning.specs.Legal.{IsLegal}
use Rattle.kt_meaning.proofs.LegalLogs.{legal_last, past_push}
use Rattle.kt_protocol.specs.States.{State, ProtocolStep}
use Rattle.kt_protocol.proofs.Invariant.{Invariant}
use Rattle.kt_protocol.specs.LateSteps.{late_step}
use Rattle.kt_protocol.specs.OnceClosed.{once_closed}
use Rattle.kt_machine.specs.Done.{done}
use Rattle.kt_machine.specs.Values.{Rules, Due, Act, due, does_all, closing}
use Rattle.kt_machine.specs.Acts.{acts, stepper}
use Rattle.kt_machine.proofs.DoneAlong.{done_past}
use Rattle.kt_machine.proofs.OwnHistories.{closed_kind}
use Rattle.kt_machine.proofs.LastRows.{ends_step}
use Rattle.kt_machine.proofs.RunActs.{step_law}

-- a row past the first log
get_past : {X : Type 0} (xs ys : List X) (i : ℕ) (x : X) → slice_get (xs ++ ys) i ≡ Some x → length xs ≤ i → (j : ℕ) × (slice_get ys j ≡ Some x)
get_past [] ys i x e l = (i, e)
get_past (y ∷ xs) ys zero x e l = absurd (omega (arith, l))
get_past (y ∷ xs) ys (suc i) x e l = get_past xs ys i x e (omega (arith, l))

module _ (c : State) (x : ProtocolStep) (g : Invariant (once_closed c)) (l : IsLegal (late_step c x).log) where
  pub abort_acts : (i p k : ℕ) → slice_get (late_step c x).log i ≡ Some (Closed p k) → length c.log ≤ i → is_committed (past (late_step c x).log) k ≡ false → acts c x ≡ closing (is_rollback (past (late_step c x).log) k) false
  abort_acts i p k e b v =
      let n = ends_step c x g in
      let j = get_past c.log n.rows i (Closed p k) (ap (λ (t : List Event). slice_get t i) (sym n.log) ∙ e) b in
      let f = n.each j.0 p k j.1 in
      let h = legal_last f.0 (Closed p k) (subst IsLegal f.1 l) in
      let kinds = closed_kind f.0 p k h.0 h.1 in
      let s : past (late_step c x).log ≡ after (past f.0) (Closed p k) = ap past f.1 ∙ past_push f.0 (Closed p k) in
      let w : is_committed (past f.0) k ≡ false = sym (ap (λ (t : Past). is_committed t k) s) ∙ v in
      f.2 (sym kinds.1 ∙ (ap (λ (t : Past). is_committed t k) (done_past f.0) ∙ w))
      ∙ ap (λ (t : Bool). closing t false) (sym kinds.0 ∙ (ap (λ (t : Past). is_rollback t k) (done_past f.0) ∙ sym (ap (λ (t : Past). is_rollback t k) s)))

  -- which changes no object and no permanent state
  pub abort_keeps : {V : Type 0} (r : Rules V) (i p k u : ℕ) → slice_get (late_step c x).log i ≡ Some (Closed p k) → length c.log ≤ i → is_committed (past (late_step c x).log) k ≡ false → ((due r (done (late_step c x).log) u).object ≡ (due r (done c.log) u).object) × ((due r (done (late_step c x).log) u).permanent ≡ (due r (done c.log) u).permanent)
  abort_keeps {V} r i p k u e b v =
      let a = abort_acts i p k e b v in
      let t : does_all r (due r (done c.log) u) (if u == stepper x then closing (is_rollback (past (late_step c x).log) k) false else []) ≡ due r (done (late_step c x).log) u = ap (λ (y : List Act). does_all r (due r (done c.log) u) (if u == stepper x then y else [])) (sym a) ∙ step_law r c x u g l in (
        ap (λ (y : Due V). y.object) (sym t) ∙ (kept (u == stepper x) (is_rollback (past (late_step c x).log) k) (due r (done c.log) u)).0,
        ap (λ (y : Due V). y.permanent) (sym t) ∙ (kept (u == stepper x) (is_rollback (past (late_step c x).log) k) (due r (done c.log) u)).1,
      )
    where
      kept : (m n : Bool) (y : Due V) → ((does_all r y (if m then closing n false else [])).object ≡ y.object) × ((does_all r y (if m then closing n false else [])).permanent ≡ y.permanent)
      kept true true y = (refl, refl)
      kept true false y = (refl, refl)
      kept false n y = (refl, refl)
