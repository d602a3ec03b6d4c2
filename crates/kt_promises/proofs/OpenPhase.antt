-- The open phase, by what code has.
use Rattle.std.proofs.Common.{length, ◌≡◌, ℕ, ◌≤◌, ◌<◌, true, false, sym, subst, ◌∙◌, Some}
use Rattle.kt_plan.specs.Limits.{Planned, IsPlan}
use Rattle.kt_plan.specs.declared.commands.Command.{Command}
use Rattle.kt_plan.specs.declared.steps.Step.{Step}
use Rattle.kt_plan.specs.declared.steps.Step.TheVariants.{Do}
use Rattle.kt_plan.specs.declared.steps.Give.{Give}
use Rattle.kt_promises.proofs.MachineSteps.{after_machine_step}
use Rattle.kt_promises.proofs.InstancesBegun.{run_facts}
use Rattle.kt_promises.proofs.RunFacts.{next_ahead, next_there}
use Rattle.kt_promises.proofs.MachineOpenPhase.{in_phase, quiet_between}
use Rattle.kt_promises.proofs.AtRest.{attained}
use Rattle.kt_promises.specs.Progress.{Progress, next_command, opens_next, is_quiet}
use Rattle.kt_promises.specs.Steps.{enabled, progress_after}
use Rattle.kt_promises.specs.Runs.{RunReaches}
use Rattle.kt_promises.proofs.SameSteps.{enabled_same, opens_same, quiet_same, after_same}
use Rattle.kt_promises.proofs.ReachedRuns.{carry}

pub ahead_seen : (plan : Planned) (first : ℕ) (w : Progress) (p : ℕ) (c : Command) → IsPlan plan → RunReaches plan first w → next_command plan w p ≡ Some c → w.phase ≤ c.phase
ahead_seen plan first w p c i r = carry plan first w (λ v. next_command plan v p ≡ Some c → v.phase ≤ c.phase) i r (λ g s e. next_ahead plan g p c (run_facts plan g s) e)

pub shut_seen : (plan : Planned) (first : ℕ) (w : Progress) → IsPlan plan → RunReaches plan first w → opens_next plan w ≡ false
shut_seen plan first w i r = carry plan first w (λ v. opens_next plan v ≡ false) i r (λ g s. opens_same plan first g ∙ (run_facts plan g s).shut)

pub in_phase_seen : (plan : Planned) (first : ℕ) (w : Progress) (p : ℕ) → IsPlan plan → RunReaches plan first w → enabled plan w (Do p) ≡ true → (c : Command) × (next_command plan w p ≡ Some c) × (c.phase ≡ w.phase)
in_phase_seen plan first w p i r = carry plan first w (λ v. enabled plan v (Do p) ≡ true → (c : Command) × (next_command plan v p ≡ Some c) × (c.phase ≡ v.phase)) i r
    (λ g s e. in_phase plan g p (run_facts plan g s) (sym (enabled_same plan first g (Do p)) ∙ e))

pub quiet_seen : (plan : Planned) (first : ℕ) (w : Progress) (x : Step) (give : Give) → IsPlan plan → RunReaches plan first w → enabled plan w x ≡ true →
    (w.phase ≤ (progress_after plan w x give).phase) × (w.phase < (progress_after plan w x give).phase → is_quiet (length plan.names) (progress_after plan w x give).now ≡ true)
quiet_seen plan first w x give i r = carry plan first w (λ v. enabled plan v x ≡ true → (v.phase ≤ (progress_after plan v x give).phase) × (v.phase < (progress_after plan v x give).phase → is_quiet (length plan.names) (progress_after plan v x give).now ≡ true)) i r
    (λ g s e. let k = run_facts plan g s in let b = sym (enabled_same plan first g x) ∙ e in
    subst (λ (v : Progress). (g.phase ≤ v.phase) × (g.phase < v.phase → is_quiet (length plan.names) v.now ≡ true)) (after_same plan first g x give k)
    (let q = quiet_between plan g x give k b in (q.0, λ l. quiet_same (length plan.names) first (after_machine_step plan g x give).state ∙ q.1 l)))

pub attained_seen : (plan : Planned) (first : ℕ) (w : Progress) (p : ℕ) (c : Command) → IsPlan plan → RunReaches plan first w → is_quiet (length plan.names) w.now ≡ true → next_command plan w p ≡ Some c →
    (q : ℕ) × (d : Command) × (q < length plan.names) × (next_command plan w q ≡ Some d) × (d.phase ≡ w.phase)
attained_seen plan first w p c i r = carry plan first w (λ v. is_quiet (length plan.names) v.now ≡ true → next_command plan v p ≡ Some c → (q : ℕ) × (d : Command) × (q < length plan.names) × (next_command plan v q ≡ Some d) × (d.phase ≡ v.phase)) i r
    (λ g s quiet. attained plan g p c (run_facts plan g s) (sym (quiet_same (length plan.names) first g.state) ∙ quiet))

pub next_there_seen : (plan : Planned) (first : ℕ) (w : Progress) (p : ℕ) (c : Command) → IsPlan plan → RunReaches plan first w → next_command plan w p ≡ Some c → p < length plan.names
next_there_seen plan first w p c i r = carry plan first w (λ v. next_command plan v p ≡ Some c → p < length plan.names) i r (λ g s e. next_there plan g p c (run_facts plan g s) e)
