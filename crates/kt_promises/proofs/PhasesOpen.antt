-- Phases that open leave the rest as it is.
use Rattle.std.proofs.Common.{length, ◌≡◌, ℕ, ◌+◌, refl, ap, ◌∙◌, Some}
use Rattle.kt_meaning.specs.Past.{at_one}
use Rattle.kt_protocol.specs.States as machine
use Rattle.kt_protocol.proofs.Choices.{at_if}
use Rattle.kt_machine.specs.Transition.{transition, opening_seen}
use Rattle.kt_plan.specs.declared.commands.Command.{Command}
use Rattle.kt_plan.specs.Limits.{Planned}
use Rattle.kt_plan.specs.declared.steps.Step.TheVariants.{Do, Take}
use Rattle.kt_plan.specs.declared.steps.Give.{Give}
use Rattle.kt_promises.specs.Steps.{protocol_step, after_command, progress_after}
use Rattle.kt_promises.specs.Runs.{IsSameButPhase}
use Rattle.kt_promises.specs.Progress.{Progress, next_command, is_quiet, phase_to_open, with_phases_open, progress_at_start}

pub settling : (plan : Planned) (w : Progress) → IsSameButPhase w (with_phases_open plan w)
settling plan w = at_if (IsSameButPhase w) (is_quiet (length plan.names) w.now) (record w { phase = phase_to_open plan w }) w
    (λ _. record { now = refl; done = refl }) (λ _. record { now = refl; done = refl })

pub opening_is : (plan : Planned) (first : ℕ) → IsSameButPhase (record { now = opening_seen (length plan.names) first; done = λ p. 0; phase = 0 }) (progress_at_start plan first)
opening_is plan first = settling plan (record { now = opening_seen (length plan.names) first; done = λ p. 0; phase = 0 })

-- what a take makes, and what a command makes
pub takes_is : (plan : Planned) (w : Progress) (p q : ℕ) (give : Give) → IsSameButPhase (record w { now = transition w.now (machine.Take p q give.able) }) (progress_after plan w (Take p q) give)
takes_is plan w p q give = settling plan (record w { now = transition w.now (machine.Take p q give.able) })

pub does_is : (plan : Planned) (w : Progress) (p : ℕ) (give : Give) (c : Command) → next_command plan w p ≡ Some c →
    IsSameButPhase (record w { now = transition w.now (protocol_step p c.job give); done = at_one p (w.done p + 1) w.done }) (progress_after plan w (Do p) give)
does_is plan w p give c e = let s = settling plan (record w { now = transition w.now (protocol_step p c.job give); done = at_one p (w.done p + 1) w.done }) in let m = ap (after_command plan w p give) e in
    record { now = ap (λ (v : Progress). v.now) m ∙ s.now; done = ap (λ (v : Progress). v.done) m ∙ s.done }
