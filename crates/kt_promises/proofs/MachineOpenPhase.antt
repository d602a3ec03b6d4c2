-- The open phase: its commands alone are enabled, and it ends where nothing is in transit.
use Rattle.std.proofs.Common.{length, ◌≡◌, ℕ, ◌≤◌, ◌<◌, Bool, true, false, refl, Some, None, subst, sym}
use Rattle.std.specs.Prelude.{◌&&◌, nat_lt, Option}
use Rattle.kt_plan.specs.declared.commands.Command.{Command}
use Rattle.kt_plan.specs.Limits.{Planned}
use Rattle.kt_promises.proofs.MachineProgress.{MachineProgress, machine_is_quiet, machine_next_command}
use Rattle.kt_plan.specs.declared.steps.Step.TheVariants.{Do}
use Rattle.kt_plan.specs.declared.steps.Give.{Give}
use Rattle.kt_plan.specs.declared.steps.Step.{Step}
use Rattle.kt_promises.proofs.MachineSteps.{after_machine_step, machine_enabled, machine_may_do}
use Rattle.kt_promises.proofs.RunFacts.{RunFacts}
use Rattle.kt_promises.proofs.StepRows.{turn_of}
use Rattle.kt_promises.proofs.LooksStay.{made_is}
use Rattle.kt_promises.proofs.PhaseOrder.{never_both}

pub in_phase : (plan : Planned) (g : MachineProgress) (p : ℕ) → RunFacts plan g → machine_enabled plan g (Do p) ≡ true → (c : Command) × (machine_next_command plan g p ≡ Some c) × (c.phase ≡ g.phase)
in_phase plan g p k b = go (machine_next_command plan g p) refl b
  where
    go : (o : Option Command) → machine_next_command plan g p ≡ o → (nat_lt p (length plan.names) && machine_may_do g p o) ≡ true → (c : Command) × (machine_next_command plan g p ≡ Some c) × (c.phase ≡ g.phase)
    go None e f = absurd (never_both (nat_lt p (length plan.names)) f)
    go (Some c) e f = (c, e, (turn_of plan g p c k e f).of_phase)

pub quiet_between : (plan : Planned) (g : MachineProgress) (x : Step) (give : Give) → RunFacts plan g → machine_enabled plan g x ≡ true → (g.phase ≤ (after_machine_step plan g x give).phase) × (g.phase < (after_machine_step plan g x give).phase → machine_is_quiet (length plan.names) (after_machine_step plan g x give).state ≡ true)
quiet_between plan g x give k e = let m = made_is plan g x give k e in (subst (λ (a : ℕ). a ≤ (after_machine_step plan g x give).phase) m.phase m.opened.phase, λ l. m.opened.quiet (subst (λ (a : ℕ). a < (after_machine_step plan g x give).phase) (sym m.phase) l))
