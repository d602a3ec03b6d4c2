-- What is due by the state's fields is what is due by its log.
use Rattle.std.proofs.Common.{◌≡◌, ℕ, ◌<◌, Bool, true, false, not, Option, Some, None, List, [], ◌∷◌, ◌++◌, take, refl, arith, sym, ap, ap₂, subst, ◌∙◌}
use Rattle.std.specs.Prelude.{◌==◌, ◌&&◌, if◌then◌else◌, option_map}
use Rattle.std.proofs.lemmas.Bool.Decides.{nat_tests}
use Rattle.kt_spacetime.specs.declared.event.Event.{Event}
use Rattle.kt_spacetime.specs.declared.deeds.Deed.{Deed}
use Rattle.kt_spacetime.specs.declared.event.Event.TheVariants.{Decided}
use Rattle.kt_meaning.specs.Past.{Past, past}
use Rattle.kt_meaning.proofs.LegalLogs.{past_push}
use Rattle.kt_meaning.specs.Legal.{IsLegal}
use Rattle.kt_protocol.specs.Summary.{Summary}
use Rattle.kt_protocol.specs.SummaryMeaning.{AgreesWith}
use Rattle.kt_protocol.specs.States.{State, ProtocolStep, opening}
use Rattle.kt_protocol.proofs.Invariant.{Invariant}
use Rattle.kt_protocol.proofs.LawfulSteps.{lawful_after_run}
use Rattle.kt_protocol.specs.LateSteps.{late_run}
use Rattle.kt_protocol.specs.OnceClosed.{once_closed}
use Rattle.kt_protocol.specs.KeptInOrder.{is_in_checkpoint}
use Rattle.kt_protocol.specs.OwnHistories.{OwnHistories, own_histories}
use Rattle.kt_machine.specs.Done.{done}
use Rattle.kt_machine.specs.Values.{Rules, value, due, taken_in, taken_at}
use Rattle.kt_machine.specs.States.{due_in, live_in, permanent_in}
use Rattle.kt_machine.proofs.DoneAlong.{done_past}
use Rattle.kt_machine.proofs.LegalFacts.{sound}
use Rattle.kt_machine.proofs.OwnHistories.{owned_same, tied_done}
use Rattle.kt_machine.proofs.OwnPositions.{places_of}
use Rattle.kt_machine.proofs.RunActs.{same_state, invariant_late, legal_late}
use Rattle.kt_machine.proofs.RowActs.{due_same}

module _ (n : ℕ) (steps : List ProtocolStep) where
  pub positions_late : (p : ℕ) → (late_run (opening n) steps).own_permanent p ≡ (done (late_run (opening n) steps).log).permanent p
  positions_late p = ((places_of n steps (invariant_late n)).fits (legal_late n steps)).own p

  pub own_late : (p : ℕ) → (own_histories (late_run (opening n) steps).log).own p ≡ (done (late_run (opening n) steps).log).own p
  own_late p = ap (λ (o : OwnHistories). o.own p) (owned_same (late_run (opening n) steps).log (legal_late n steps))

  pub up_late : (p : ℕ) → (late_run (opening n) steps).up p ≡ (done (late_run (opening n) steps).log).past.up p
  up_late p = subst (λ (s : State). s.up p ≡ (past s.log).up p) (sym (same_state n steps)) ((lawful_after_run n steps).is_up p) ∙ ap (λ (s : Past). s.up p) (sym (done_past (late_run (opening n) steps).log))

  pub tied_late : AgreesWith (late_run (opening n) steps).so_far (done (late_run (opening n) steps).log).past
  tied_late = subst (λ (h : Summary). AgreesWith h (done (late_run (opening n) steps).log).past) (sym (invariant_late n steps).histories.of_log) (tied_done (late_run (opening n) steps).log (legal_late n steps))

  -- the tentative place
  pub taken_late : {V : Type 0} (f : ℕ → V) (p : ℕ) → (if is_in_checkpoint (late_run (opening n) steps).so_far p then Some (f ((late_run (opening n) steps).saved_at p)) else None) ≡ option_map f (taken_at (done (late_run (opening n) steps).log).past p)
  taken_late {V} f p = go ((late_run (opening n) steps).so_far.open_in p == 0) refl ∙ ap (λ (o : Option ℕ). option_map f (taken_in (done (late_run (opening n) steps).log).past p o)) (sym (tied_late.open_in p))
    where
      g : Invariant (once_closed (late_run (opening n) steps))
      g = invariant_late n steps

      go : (b : Bool) → ((late_run (opening n) steps).so_far.open_in p == 0) ≡ b → (if not b && not ((late_run (opening n) steps).so_far.is_rollback ((late_run (opening n) steps).so_far.open_in p)) then Some (f ((late_run (opening n) steps).saved_at p)) else None) ≡ option_map f (taken_in (done (late_run (opening n) steps).log).past p (if b then None else Some ((late_run (opening n) steps).so_far.open_in p)))
      go true e = refl
      go false e = at_kind ((late_run (opening n) steps).so_far.is_rollback ((late_run (opening n) steps).so_far.open_in p)) refl
        where
          positive : 0 < (late_run (opening n) steps).so_far.open_in p
          positive = grind (arith, nat_tests, e)

          at_kind : (b : Bool) → (late_run (opening n) steps).so_far.is_rollback ((late_run (opening n) steps).so_far.open_in p) ≡ b → (if true && not b then Some (f ((late_run (opening n) steps).saved_at p)) else None) ≡ option_map f ((done (late_run (opening n) steps).log).past.new ((late_run (opening n) steps).so_far.open_in p) p)
          at_kind b r = by_kind b r ∙ sym (ap (option_map f) (tied_late.new ((late_run (opening n) steps).so_far.open_in p) p ∙ rw (g.positions.open_joined ((late_run (opening n) steps).so_far.open_in p) p positive refl, r) refl))
            where
              by_kind : (b : Bool) → (late_run (opening n) steps).so_far.is_rollback ((late_run (opening n) steps).so_far.open_in p) ≡ b → (if true && not b then Some (f ((late_run (opening n) steps).saved_at p)) else None) ≡ option_map f (if true && not b then Some ((late_run (opening n) steps).so_far.new ((late_run (opening n) steps).so_far.open_in p) p) else None)
              by_kind true r = refl
              by_kind false r = ap (λ (x : ℕ). Some (f x)) (g.positions.open_saved ((late_run (opening n) steps).so_far.open_in p) p positive refl r)

  pub due_late : {V : Type 0} (r : Rules V) (p : ℕ) → due_in r (late_run (opening n) steps) p ≡ due r (done (late_run (opening n) steps).log) p
  due_late r p = due_same
      (ap₂ (λ (b : Bool) (l : List Deed). if b then Some (value r (done (late_run (opening n) steps).log).body l) else None) (up_late p) (own_late p))
      (ap₂ (λ (m : ℕ) (l : List Deed). value r (done (late_run (opening n) steps).log).body (take m l)) (positions_late p) (own_late p))
      (taken_late (λ m. value r (done (late_run (opening n) steps).log).body (take m ((own_histories (late_run (opening n) steps).log).own p))) p ∙ ap (λ (l : List Deed). option_map (λ m. value r (done (late_run (opening n) steps).log).body (take m l)) (taken_at (done (late_run (opening n) steps).log).past p)) (own_late p))

-- live histories by own ones, after every legal log
pub live_is : (log : List Event) (p : ℕ) → IsLegal log → (past log).live p ≡ live_in (done log) p ((past log).open_in p)
live_is log p l = ap (λ (s : Past). s.live p) (sym (done_past log)) ∙ (go ((done log).past.open_in p) refl ∙ ap (λ (s : Past). live_in (done log) p (s.open_in p)) (done_past log))
  where
    go : (o : Option ℕ) → (done log).past.open_in p ≡ o → (done log).past.live p ≡ live_in (done log) p ((done log).past.open_in p)
    go None e = (sound log l).owns.live_idle p e ∙ ap (live_in (done log) p) (sym e)
    go (Some k) e = (sound log l).owns.live_in p k e ∙ ap (live_in (done log) p) (sym e)

-- permanent positions by own ones
pub permanent_is : (log : List Event) (p : ℕ) → IsLegal log → (past log).permanent p ≡ permanent_in (done log) p ((past log).open_in p)
permanent_is log p l = ap (λ (s : Past). s.permanent p) (sym (done_past log)) ∙ (go ((done log).past.open_in p) refl ∙ ap (λ (s : Past). permanent_in (done log) p (s.open_in p)) (done_past log))
  where
    go : (o : Option ℕ) → (done log).past.open_in p ≡ o → (done log).past.permanent p ≡ permanent_in (done log) p ((done log).past.open_in p)
    go None e = (sound log l).owns.place_idle p e ∙ ap (permanent_in (done log) p) (sym e)
    go (Some k) e = (sound log l).owns.place_in p k e ∙ ap (permanent_in (done log) p) (sym e)

-- a row that decides an abort
pub abort_row : (log : List Event) (p k q : ℕ) → ((past (log ++ Decided p k false ∷ [])).live q ≡ (past log).live q) × ((past (log ++ Decided p k false ∷ [])).permanent q ≡ (past log).permanent q)
abort_row log p k q = (ap (λ (s : Past). s.live q) (past_push log (Decided p k false)), ap (λ (s : Past). s.permanent q) (past_push log (Decided p k false)))
