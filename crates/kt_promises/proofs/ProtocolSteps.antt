-- The protocol's steps behind a run.
use Rattle.std.proofs.Common.{length, ◌≡◌, ℕ, Bool, true, false, List, [], ◌∷◌, ◌++◌, refl, sym, ap, subst, ◌∙◌, Some, None}
use Rattle.std.specs.Prelude.{◌&&◌, nat_lt, Option}
use Rattle.kt_spacetime.specs.declared.event.Event.{Event}
use Rattle.kt_protocol.specs.States.{State, opening}
use Rattle.kt_protocol.specs.States as machine
use Rattle.kt_protocol.specs.LateSteps.{late_step, late_run}
use Rattle.kt_machine.specs.Seen.{Seen, seen}
use Rattle.kt_machine.specs.Transition.{transition, run_seen, opening_seen}
use Rattle.kt_machine.proofs.Runs.{seen_after_run}
use Rattle.kt_machine.specs.Done.{done}
use Rattle.kt_machine.specs.Values.{acts_along}
use Rattle.kt_machine.specs.Acts.{acts, acts_by, stepper}
use Rattle.kt_machine.specs.SeenActs.{seen_acts}
use Rattle.kt_machine.proofs.SeenActs.{acts_seen}
use Rattle.kt_machine.proofs.StepRows.{told}
use Rattle.kt_plan.specs.Limits.{Planned, IsPlan}
use Rattle.kt_plan.specs.declared.commands.Command.{Command}
use Rattle.kt_plan.specs.declared.steps.Step.{Step}
use Rattle.kt_plan.specs.declared.steps.Step.TheVariants.{Do, Take}
use Rattle.kt_plan.specs.declared.steps.Give.{Give}
use Rattle.kt_promises.specs.Steps.{protocol_step, may_do, enabled, progress_after}
use Rattle.kt_protocol.proofs.Updates.{is_same}
use Rattle.kt_promises.proofs.InstancesBegun.{run_facts}
use Rattle.kt_promises.proofs.RunFacts.{run_more as run_state_more}
use Rattle.kt_promises.specs.Progress.{Progress, progress_at_start, next_command}
use Rattle.kt_promises.specs.Runs.{RunReaches, steps_of_command, protocol_steps, IsAfterSteps}
use Rattle.kt_promises.specs.StepActs.{rows_added, acts_of_step}
use Rattle.kt_promises.proofs.PhasesOpen.{opening_is, takes_is, does_is}
use Rattle.kt_promises.proofs.ReachedRuns.{carry}
use Rattle.kt_promises.proofs.ActsOfSteps.{log_grows}
use Rattle.kt_promises.proofs.PhaseOrder.{never_both}

run_more : (v : Seen) (xs : List machine.ProtocolStep) (x : machine.ProtocolStep) → run_seen v (xs ++ x ∷ []) ≡ transition (run_seen v xs) x
run_more v [] x = refl
run_more v (y ∷ ys) x = run_more (transition v y) ys x

-- behind an enabled step is one of the protocol
pub record OneStep (plan : Planned) (w : Progress) (x : Step) (give : Give) : Type 0 where
  pub step : machine.ProtocolStep
  pub alone : protocol_steps plan w x give ≡ step ∷ []
  pub now : (progress_after plan w x give).now ≡ transition w.now step

pub one_step : (plan : Planned) (w : Progress) (x : Step) (give : Give) → enabled plan w x ≡ true → OneStep plan w x give
one_step plan w (Do p) give e = go (next_command plan w p) refl e
  where
    go : (o : Option Command) → next_command plan w p ≡ o → (nat_lt p (length plan.names) && may_do w p (next_command plan w p)) ≡ true → OneStep plan w (Do p) give
    go None n f = absurd (never_both (nat_lt p (length plan.names)) (ap (λ (o : Option Command). nat_lt p (length plan.names) && may_do w p o) (sym n) ∙ f))
    go (Some c) n f = record { step = protocol_step p c.job give; alone = ap (steps_of_command p give) n; now = (does_is plan w p give c n).now }
one_step plan w (Take p q) give e = record { step = machine.Take p q give.able; alone = refl; now = (takes_is plan w p q give).now }

pub steps_at_start : (plan : Planned) (first : ℕ) → IsAfterSteps plan first [] (progress_at_start plan first)
steps_at_start plan first = (opening_is plan first).now

pub steps_next : (plan : Planned) (first : ℕ) (w : Progress) (steps : List machine.ProtocolStep) (x : Step) (give : Give) → IsAfterSteps plan first steps w → enabled plan w x ≡ true → IsAfterSteps plan first (steps ++ protocol_steps plan w x give) (progress_after plan w x give)
steps_next plan first w steps x give m e = let d = one_step plan w x give e in
    d.now ∙ (ap (λ (v : Seen). transition v d.step) m ∙ (sym (run_more (opening_seen (length plan.names) first) steps d.step) ∙ ap (λ (l : List machine.ProtocolStep). run_seen (opening_seen (length plan.names) first) (steps ++ l)) (sym d.alone)))

pub steps_seen : (plan : Planned) (first : ℕ) (w : Progress) (steps : List machine.ProtocolStep) → IsAfterSteps plan first steps w → w.now ≡ seen first (late_run (opening (length plan.names)) steps)
steps_seen plan first w steps m = m ∙ sym (seen_after_run (length plan.names) first steps)

pub steps_acts : (plan : Planned) (first : ℕ) (w : Progress) (steps : List machine.ProtocolStep) (x : Step) (give : Give) (y : machine.ProtocolStep) (p : ℕ) → IsPlan plan → RunReaches plan first w → IsAfterSteps plan first steps w → enabled plan w x ≡ true → protocol_steps plan w x give ≡ y ∷ [] →
    acts_of_step plan w x give p ≡ acts_by p (late_run (opening (length plan.names)) steps) y
steps_acts plan first w steps x give y p i r m e a =
    ap (λ (l : List Event). acts_along p (done l) (rows_added plan w x give)) log_is
    ∙ told (length plan.names) steps y (rows_added plan w x give) p (sym log_then ∙ (log_grows plan first w x give i r e ∙ ap (λ (l : List Event). l ++ rows_added plan w x give) log_is))
  where
    log_is : w.now.log ≡ (late_run (opening (length plan.names)) steps).log
    log_is = ap (λ (v : Seen). v.log) (steps_seen plan first w steps m)

    more : late_run (opening (length plan.names)) (steps ++ y ∷ []) ≡ late_step (late_run (opening (length plan.names)) steps) y
    more = run_state_more (opening (length plan.names)) steps y

    log_then : (progress_after plan w x give).now.log ≡ (late_step (late_run (opening (length plan.names)) steps) y).log
    log_then = ap (λ (v : Seen). v.log) (steps_seen plan first (progress_after plan w x give) (steps ++ y ∷ []) (subst (λ (l : List machine.ProtocolStep). IsAfterSteps plan first (steps ++ l) (progress_after plan w x give)) a (steps_next plan first w steps x give m e))) ∙ ap (λ (s : State). s.log) more

-- steps of the protocol lead to what is seen wherever a run leads
steps_behind : (plan : Planned) (first : ℕ) (w : Progress) → IsPlan plan → RunReaches plan first w → (steps : List machine.ProtocolStep) × IsAfterSteps plan first steps w
steps_behind plan first w i r = carry plan first w (λ v. (steps : List machine.ProtocolStep) × IsAfterSteps plan first steps v) i r
    (λ g s. let k = run_facts plan g s in (k.steps, ap (seen first) k.state_is ∙ seen_after_run (length plan.names) first k.steps))

own_acts : (s : State) (y : machine.ProtocolStep) → acts_by (stepper y) s y ≡ acts s y
own_acts s y = let e = is_same (stepper y) in rw e refl

-- the acts of a step, by what is seen
pub seen_acts_are : (plan : Planned) (first : ℕ) (w : Progress) (x : Step) (give : Give) (y : machine.ProtocolStep) → IsPlan plan → RunReaches plan first w → enabled plan w x ≡ true → protocol_steps plan w x give ≡ y ∷ [] → acts_of_step plan w x give (stepper y) ≡ seen_acts w.now y
seen_acts_are plan first w x give y i r e a =
    let b = steps_behind plan first w i r in
    steps_acts plan first w b.0 x give y (stepper y) i r b.1 e a
    ∙ (own_acts (late_run (opening (length plan.names)) b.0) y
    ∙ (acts_seen (length plan.names) first b.0 y ∙ ap (λ (v : Seen). seen_acts v y) (sym (steps_seen plan first w b.0 b.1))))
