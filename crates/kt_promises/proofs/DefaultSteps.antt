-- Rest, default steps, and processes that are unwilling, of each run.
use Rattle.std.proofs.Common.{◌≡◌, ℕ, ℤ, ◌≤◌, Bool, true, false, List, [], length, refl, sym, ap, subst, ◌∙◌, Some, None}
use Rattle.std.specs.Prelude.{◌⊎◌, is_some, if◌then◌else◌, slice_get}
use Rattle.kt_base.specs.declared.words.Cause.{Cause}
use Rattle.kt_spacetime.specs.declared.event.Event.TheVariants.{Unwilling}
use Rattle.kt_meaning.specs.Legal.{IsLegal}
use Rattle.kt_meaning.specs.Past.{past}
use Rattle.kt_protocol.specs.Parcels.{Parcel}
use Rattle.kt_protocol.specs.States.{State, opening}
use Rattle.kt_protocol.specs.Summary.{Summary, summary}
use Rattle.kt_protocol.specs.States as machine
use Rattle.kt_protocol.specs.SummaryMeaning.{AgreesWith}
use Rattle.kt_protocol.specs.AtRest as protocol_at_rest
use Rattle.kt_protocol.proofs.SummaryTies.{tied}
use Rattle.kt_protocol.proofs.LawfulSteps.{lawful_after_run}
use Rattle.kt_protocol.proofs.Walk.{invariant_after_run}
use Rattle.kt_protocol.specs.LateSteps.{late_run}
use Rattle.kt_protocol.proofs.LateWholeSteps.{same_log, agrees_after_run}
use Rattle.kt_machine.specs.Seen.{seen_parcels, seen}
use Rattle.kt_plan.specs.Limits.{Planned, IsPlan}
use Rattle.kt_promises.proofs.MachineProgress.{MachineProgress, world_of}
use Rattle.kt_plan.specs.declared.steps.Step.{Step}
use Rattle.kt_plan.specs.declared.steps.Give.{Give}
use Rattle.kt_promises.specs.Looks.{uses_able, uses_body, look}
use Rattle.kt_promises.proofs.MachineRows.{IsUnwillingMachineStep}
use Rattle.kt_promises.proofs.RunFacts.{RunFacts}
use Rattle.kt_promises.proofs.InstancesBegun.{run_facts}
use Rattle.kt_promises.proofs.AtRest.{rests, idle_at_rest}
use Rattle.kt_promises.proofs.DefaultOrder.{none_is, is_none, some_is}
use Rattle.kt_promises.proofs.UnwillingSteps.{unwilling}
use Rattle.kt_promises.proofs.GivesUsed as plan_gives
use Rattle.kt_promises.specs.Progress.{Progress, commands_left}
use Rattle.kt_promises.specs.Steps.{enabled, progress_after, is_at_rest}
use Rattle.kt_promises.specs.Defaults.{default_step}
use Rattle.kt_promises.specs.Runs.{RunReaches}
use Rattle.kt_promises.specs.Order.{comes_before}
use Rattle.kt_promises.specs.AtRest.{HasNothingInTransit}
use Rattle.kt_promises.specs.Unwilling.{IsUnwillingStep}
use Rattle.kt_promises.proofs.RefusedAsks.{refuses_by_log}
use Rattle.kt_promises.proofs.SameSteps.{enabled_same, rest_same, after_same}
use Rattle.kt_promises.proofs.SameLooks.{look_same}
use Rattle.kt_promises.proofs.ReachedRuns.{carry}
use Rattle.kt_promises.proofs.RunSteps.{nothing_on}

known : (n : ℕ) (steps : List machine.ProtocolStep) → (late_run (opening n) steps).so_far ≡ summary (late_run (opening n) steps).log
known n steps = subst (λ (s : State). s.so_far ≡ summary s.log) (sym (agrees_after_run n steps).same) (invariant_after_run n steps).histories.of_log

-- the state's summary is that of its log
pub numbers_are : (plan : Planned) (g : MachineProgress) (k : RunFacts plan g) → g.state.so_far ≡ summary g.state.log
numbers_are plan g k = subst (λ (s : State). s.so_far ≡ summary s.log) (sym k.state_is) (known (length plan.names) k.steps)

pub legal_progress : (plan : Planned) (g : MachineProgress) (k : RunFacts plan g) → IsLegal g.state.log
legal_progress plan g k = subst IsLegal (sym (ap (λ (s : State). s.log) k.state_is ∙ same_log (length plan.names) k.steps)) (lawful_after_run (length plan.names) k.steps).legal

-- rest
none_seen : (label : ℕ → ℕ) (body : ℕ → ℤ) (roll : ℕ → Bool) (l : List Parcel) → l ≡ [] → seen_parcels label body roll l ≡ []
unfolding seen_parcels
none_seen label body roll l e = ap (seen_parcels label body roll) e

pub quiet_of_progress : (plan : Planned) (first : ℕ) (g : MachineProgress) → RunFacts plan g → protocol_at_rest.IsAtRest g.state → HasNothingInTransit (seen first g.state)
quiet_of_progress plan first g k a = record {
  decided = λ j pos low. ap is_some ((tied g.state.log (legal_progress plan g k)).decision j) ∙ some (j) (ap (λ (h : Summary). h.is_decided j) (sym (numbers_are plan g k)) ∙ a.decided j pos low);
  closed = a.closed;
  no_parcel = λ p q. none_seen _ _ _ (g.state.channel p q) (a.no_parcel p q);
  none_held = λ p q. none_seen _ _ _ (g.state.held p q) (a.none_held p q);
}
  where
    some : (j : ℕ) → (summary g.state.log).is_decided j ≡ true → is_some (if (summary g.state.log).is_decided j then Some ((summary g.state.log).is_committed j) else None) ≡ true
    some j e = rw e refl

pub quiet_seen_at_rest : (plan : Planned) (first : ℕ) (w : Progress) → IsPlan plan → RunReaches plan first w → ((x : Step) → enabled plan w x ≡ false) → HasNothingInTransit w.now
quiet_seen_at_rest plan first w i r = carry plan first w (λ v. ((x : Step) → enabled plan v x ≡ false) → HasNothingInTransit v.now) i r
    (λ g s n. let k = run_facts plan g s in quiet_of_progress plan first g k (rests plan g k (nothing_on plan first g n)).machine)

pub done_seen : (plan : Planned) (first : ℕ) (w : Progress) (p : ℕ) → IsPlan plan → RunReaches plan first w → ((x : Step) → enabled plan w x ≡ false) → commands_left plan w p ≡ []
done_seen plan first w p i r = carry plan first w (λ v. ((x : Step) → enabled plan v x ≡ false) → commands_left plan v p ≡ []) i r
    (λ g s n. (rests plan g (run_facts plan g s) (nothing_on plan first g n)).none_left p)

-- the default step
pub nothing_default : (plan : Planned) (first : ℕ) (w : Progress) → IsPlan plan → RunReaches plan first w → default_step plan w ≡ None → (x : Step) → enabled plan w x ≡ false
nothing_default plan first w i r = none_is plan w

pub default_nothing : (plan : Planned) (first : ℕ) (w : Progress) → IsPlan plan → RunReaches plan first w → ((x : Step) → enabled plan w x ≡ false) → default_step plan w ≡ None
default_nothing plan first w i r = is_none plan w

pub rest_default : (plan : Planned) (first : ℕ) (w : Progress) → IsPlan plan → RunReaches plan first w → is_at_rest plan w ≡ true → default_step plan w ≡ None
rest_default plan first w i r = carry plan first w (λ v. is_at_rest plan v ≡ true → default_step plan v ≡ None) i r
    (λ g s a. is_none plan (world_of first g) (λ y. enabled_same plan first g y ∙ idle_at_rest plan g (sym (rest_same plan first g) ∙ a) y))

pub default_on : (plan : Planned) (first : ℕ) (w : Progress) (x : Step) → IsPlan plan → RunReaches plan first w → default_step plan w ≡ Some x → enabled plan w x ≡ true
default_on plan first w x i r e = (some_is plan w x e).on

pub default_first : (plan : Planned) (first : ℕ) (w : Progress) (x y : Step) → IsPlan plan → RunReaches plan first w → default_step plan w ≡ Some x → enabled plan w y ≡ true → (x ≡ y) ⊎ (comes_before plan w x y ≡ true)
default_first plan first w x y i r e b = (some_is plan w x e).first y b

-- what of a give counts
pub gives_same : (plan : Planned) (first : ℕ) (w : Progress) (x : Step) (a b : Give) → IsPlan plan → RunReaches plan first w → enabled plan w x ≡ true → (uses_able (look plan w x) ≡ true → a.able ≡ b.able) → (uses_body (look plan w x) ≡ true → a.body ≡ b.body) → progress_after plan w x a ≡ progress_after plan w x b
gives_same plan first w x a b i r = carry plan first w (λ v. enabled plan v x ≡ true → (uses_able (look plan v x) ≡ true → a.able ≡ b.able) → (uses_body (look plan v x) ≡ true → a.body ≡ b.body) → progress_after plan v x a ≡ progress_after plan v x b) i r
    (λ g s e f h. let k = run_facts plan g s in
    sym (after_same plan first g x a k) ∙ (ap (world_of first) (plan_gives.gives_same plan g x a b (sym (enabled_same plan first g x) ∙ e)
    (λ u. f (ap uses_able (look_same plan first g x k) ∙ u)) (λ u. h (ap uses_body (look_same plan first g x k) ∙ u)))
    ∙ after_same plan first g x b k))

-- a step that may be unwilling
up_late : (n : ℕ) (steps : List machine.ProtocolStep) (p : ℕ) → (late_run (opening n) steps).up p ≡ (past (late_run (opening n) steps).log).up p
up_late n steps p = subst (λ (s : State). s.up p ≡ (past s.log).up p) (sym (agrees_after_run n steps).same) ((lawful_after_run n steps).is_up p)

up_is : (plan : Planned) (g : MachineProgress) (k : RunFacts plan g) (p : ℕ) → g.state.up p ≡ (past g.state.log).up p
up_is plan g k p = subst (λ (s : State). s.up p ≡ (past s.log).up p) (sym k.state_is) (up_late (length plan.names) k.steps p)

tie : (plan : Planned) (g : MachineProgress) (k : RunFacts plan g) → AgreesWith g.state.so_far (past g.state.log)
tie plan g k = subst (λ (h : Summary). AgreesWith h (past g.state.log)) (sym (numbers_are plan g k)) (tied g.state.log (legal_progress plan g k))

unwilling_progress : (plan : Planned) (first : ℕ) (g : MachineProgress) (x : Step) (give : Give) (t p k : ℕ) (c : Cause) → RunFacts plan g → IsUnwillingMachineStep g x give t p k c → IsUnwillingStep (world_of first g) x give t p k c
unwilling_progress plan first g x give t p k c h u = record {
  from = u.from;
  step = u.step;
  row = u.row;
  justified = refuses_by_log g.state p u.from k give.able c (tie plan g h) (up_is plan g h p) u.justified;
}

pub unwilling_seen : (plan : Planned) (first : ℕ) (w : Progress) (x : Step) (give : Give) (t p k : ℕ) (c : Cause) → IsPlan plan → RunReaches plan first w → enabled plan w x ≡ true →
    slice_get (progress_after plan w x give).now.log t ≡ Some (Unwilling p k c) → length w.now.log ≤ t → IsUnwillingStep w x give t p k c
unwilling_seen plan first w x give t p k c i r = carry plan first w (λ v. enabled plan v x ≡ true → slice_get (progress_after plan v x give).now.log t ≡ Some (Unwilling p k c) → length v.now.log ≤ t → IsUnwillingStep v x give t p k c) i r
    (λ g s b e l. let h = run_facts plan g s in unwilling_progress plan first g x give t p k c h
    (unwilling plan g x give t p k c h (sym (enabled_same plan first g x) ∙ b) (ap (λ (v : Progress). slice_get v.now.log t) (after_same plan first g x give h) ∙ e) l))
