-- After every run each live message that isn't dropped stands once in the line from its sender to its receiver.
use Rattle.std.proofs.Common.{◌≡◌, ℕ, ◌+◌, Bool, true, false, not, List, [], ◌∷◌, ◌++◌, refl, arith, sym, ap, ap₂, subst, ◌∙◌}
use Rattle.std.specs.Prelude.{◌&&◌, if◌then◌else◌}
use Rattle.kt_spacetime.specs.declared.deeds.Deed.{Deed}
use Rattle.kt_spacetime.specs.declared.deeds.Deed.TheVariants as deed
use Rattle.kt_meaning.specs.Past.{Past, past}
use Rattle.kt_meaning.specs.Legal.{IsLegal, has_deed}
use Rattle.kt_protocol.specs.Parcels.{messages, Parcel}
use Rattle.kt_protocol.specs.InTransit.{times, IsInTransit, received_of}
use Rattle.kt_protocol.specs.States.{State, ProtocolStep, opening}
use Rattle.kt_protocol.specs.Steps.{run}
use Rattle.kt_protocol.proofs.Walk.{invariant_after_run}
use Rattle.kt_protocol.proofs.Lawful.{tie}
use Rattle.kt_protocol.proofs.LawfulSteps.{lawful_after_run}
use Rattle.kt_protocol.proofs.LogMeaning.{in_transit}
use Rattle.kt_protocol.specs.LateClosing.{is_within_label}
use Rattle.kt_protocol.specs.LateSteps.{late_step, late_run}
use Rattle.kt_protocol.specs.OnceClosed.{once_closed, has_to_restore, held_once_closed}
use Rattle.kt_protocol.specs.OwnHistories.{own_histories, live_once_closed}
use Rattle.kt_protocol.proofs.OwnSteps.{own_after_run}
use Rattle.kt_machine.specs.Done.{done}
use Rattle.kt_machine.specs.Acts.{stepper}
use Rattle.kt_machine.specs.States.{messages_between, StandsOnce}
use Rattle.kt_machine.proofs.DoneAlong.{done_past}
use Rattle.kt_machine.proofs.StepWalk.{walk}
use Rattle.kt_machine.proofs.RunActs.{run_more, same_state, invariant_late, legal_late}
use Rattle.kt_machine.proofs.StateValues.{own_late, tied_late}
use Rattle.kt_machine.proofs.ReceivedMessages.{got_once}
use Rattle.kt_machine.proofs.Lines.{times_line}
use Rattle.kt_machine.proofs.ListedMessages.{carried_of}
use Rattle.kt_machine.proofs.OnceInLines.{Once, Later, Here, Gone, onces}

module _ (n : ℕ) (steps : List ProtocolStep) where
  flying : IsInTransit (past (late_run (opening n) steps).log) (late_run (opening n) steps).channel (once_closed (late_run (opening n) steps)).held
  flying = subst (λ (s : State). IsInTransit (past s.log) s.channel s.held) (sym (same_state n steps)) (in_transit (run (opening n) steps) (invariant_after_run n steps) (tie _ (run (opening n) steps) (invariant_after_run n steps) (lawful_after_run n steps)))

  pub own_live : (q : ℕ) → has_to_restore (late_run (opening n) steps).so_far q ≡ false → (late_run (opening n) steps).so_far.live q ≡ (done (late_run (opening n) steps).log).own q
  own_live q r = subst (λ (s : State). s.so_far.live q ≡ live_once_closed s.so_far (own_histories s.log).own q) (sym (same_state n steps)) ((own_after_run n steps).live q) ∙ (rw r refl ∙ own_late n steps q)

  held_same : (p q : ℕ) → has_to_restore (late_run (opening n) steps).so_far q ≡ false → (once_closed (late_run (opening n) steps)).held p q ≡ (late_run (opening n) steps).held p q
  held_same p q r = ap (λ (b : Bool). held_once_closed b (is_within_label (late_run (opening n) steps) ((late_run (opening n) steps).so_far.open_in q) q p) ((late_run (opening n) steps).kept p q) ((late_run (opening n) steps).held p q)) r

  direct : (m p q : ℕ) → has_to_restore (late_run (opening n) steps).so_far q ≡ false → has_deed (deed.Sent m q) ((past (late_run (opening n) steps).log).live p) ≡ true → (past (late_run (opening n) steps).log).dropped m ≡ false → times m (messages_between (done (late_run (opening n) steps).log).own (late_run (opening n) steps).channel (late_run (opening n) steps).held p q) ≡ 1
  direct m p q r l d =
      let g = invariant_late n steps in
      let a = got_once p m ((late_run (opening n) steps).so_far.live q) (λ i j e f. sym (g.histories.received_is q i m p e).2 ∙ (g.histories.received_is q j m p f).2) in
      let a' : times m (received_of p ((done (late_run (opening n) steps).log).own q)) ≡ (if has_deed (deed.Received m p) ((past (late_run (opening n) steps).log).live q) then 1 else 0) =
      ap (λ (t : List Deed). times m (received_of p t)) (sym (own_live q r)) ∙ (a ∙ ap (λ (t : List Deed). if has_deed (deed.Received m p) t then 1 else 0) ((tied_late n steps).live q ∙ ap (λ (s : Past). s.live q) (done_past (late_run (opening n) steps).log))) in
      let b = flying m p q in
      let b' : times m (messages ((late_run (opening n) steps).channel p q)) + times m (messages ((late_run (opening n) steps).held p q)) ≡ (if true && not (has_deed (deed.Received m p) ((past (late_run (opening n) steps).log).live q)) && not false then 1 else 0) =
      ap (λ (t : List Parcel). times m (messages ((late_run (opening n) steps).channel p q)) + times m (messages t)) (sym (held_same p q r)) ∙ (b ∙ ap₂ (λ (x y : Bool). if x && not (has_deed (deed.Received m p) ((past (late_run (opening n) steps).log).live q)) && not y then 1 else 0) l d) in
      let c = times_line m (done (late_run (opening n) steps).log).own (late_run (opening n) steps).channel (late_run (opening n) steps).held p q in
      sum (has_deed (deed.Received m p) ((past (late_run (opening n) steps).log).live q)) (times m (received_of p ((done (late_run (opening n) steps).log).own q))) (times m (messages ((late_run (opening n) steps).channel p q))) (times m (messages ((late_run (opening n) steps).held p q))) _ c a' b'
    where
      sum : (b : Bool) (x y z t : ℕ) → t ≡ x + (z + y) → x ≡ (if b then 1 else 0) → y + z ≡ (if true && not b && not false then 1 else 0) → t ≡ 1
      sum true x y z t e f g = omega (arith, e, f, g)
      sum false x y z t e f g = omega (arith, e, f, g)

  -- at a state of the run: where it holds of who has a rollback to close, it holds of all
  all_once : Later (late_run (opening n) steps).so_far (done (late_run (opening n) steps).log) (late_run (opening n) steps).channel (late_run (opening n) steps).held → Once (done (late_run (opening n) steps).log) (late_run (opening n) steps).channel (late_run (opening n) steps).held
  all_once l = record { each = λ m p q h f. go m p q (has_to_restore (late_run (opening n) steps).so_far q) refl h f }
    where
      go : (m p q : ℕ) (b : Bool) → has_to_restore (late_run (opening n) steps).so_far q ≡ b → has_deed (deed.Sent m q) ((done (late_run (opening n) steps).log).past.live p) ≡ true → (done (late_run (opening n) steps).log).past.dropped m ≡ false → times m (messages_between (done (late_run (opening n) steps).log).own (late_run (opening n) steps).channel (late_run (opening n) steps).held p q) ≡ 1
      go m p q true r h f = l.each m p q r h f
      go m p q false r h f = direct m p q r (ap (λ (s : Past). has_deed (deed.Sent m q) (s.live p)) (sym (done_past (late_run (opening n) steps).log)) ∙ h) (ap (λ (s : Past). s.dropped m) (sym (done_past (late_run (opening n) steps).log)) ∙ f)

record LaterAt (s : State) : Type 0 where
  later : Later s.so_far (done s.log) s.channel s.held

later_from : (n : ℕ) (before xs : List ProtocolStep) → LaterAt (late_run (opening n) before) → LaterAt (late_run (late_run (opening n) before) xs)
later_from n before [] i = i
later_from n before (x ∷ xs) i =
    let c = late_run (opening n) before in
    let e : late_run (opening n) (before ++ x ∷ []) ≡ late_step c x = run_more (opening n) before (x ∷ []) in
    let w = carried_of n before (invariant_late n) in
    let y = walk x Here Gone (onces x (stepper x)) c (invariant_late n before) (record { carried = w; once = λ l. all_once n before i.later }) in
    let t : LaterAt (late_step c x) = record { later = y.once (subst (λ (s : State). IsLegal s.log) e (legal_late n (before ++ x ∷ []))) } in
    subst (λ (s : State). LaterAt (late_run s xs)) e (later_from n (before ++ x ∷ []) xs (subst LaterAt (sym e) t))

pub stands_once : (n : ℕ) (steps : List ProtocolStep) → StandsOnce (late_run (opening n) steps).log (late_run (opening n) steps).channel (late_run (opening n) steps).held
stands_once n steps m p q h f =
    let l = later_from n [] steps (record { later = record { each = λ m p q r h f. absurd (cc (h)) } }) in
    (all_once n steps l.later).each m p q (ap (λ (s : Past). has_deed (deed.Sent m q) (s.live p)) (done_past (late_run (opening n) steps).log) ∙ h) (ap (λ (s : Past). s.dropped m) (done_past (late_run (opening n) steps).log) ∙ f)
