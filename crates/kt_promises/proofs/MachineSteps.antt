-- Of the machine's state behind a run: the steps of a plan: when one may be made, and what it makes.
use Rattle.std.specs.Prelude.{length, ℕ, Bool, Option, None, false, Some, ◌==◌, ◌&&◌, nat_lt, ◌+◌, slice_get, is_some}
use Rattle.kt_protocol.specs.LateSteps.{late_step}
use Rattle.kt_meaning.specs.Past.{at_one}
use Rattle.kt_protocol.specs.Deciding.{none_of}
use Rattle.kt_protocol.specs.States.{can_take}
use Rattle.kt_plan.specs.declared.commands.Command.{Command}
use Rattle.kt_plan.specs.declared.steps.Step.{Step}
use Rattle.kt_plan.specs.declared.steps.Step.TheVariants.{Do, Take}
use Rattle.kt_plan.specs.declared.steps.Give.{Give}
use Rattle.kt_plan.specs.Limits.{Planned}
use Rattle.kt_promises.proofs.MachineProgress.{MachineProgress, machine_next_command, machine_commands_left, machine_is_quiet, machine_with_phases_open}
use Rattle.kt_protocol.specs.States as machine
use Rattle.kt_promises.specs.Steps.{may_do_job, protocol_step}

-- p may do this command next: it is of the open phase
abbrev pub machine_may_do : MachineProgress → ℕ → Option Command → Bool
machine_may_do now p None = false
machine_may_do now p (Some c) = c.phase == now.phase && may_do_job (now.state.so_far.open_in p == 0) c.job

-- a step may be made
abbrev pub machine_enabled : Planned → MachineProgress → Step → Bool
machine_enabled plan now (Do p) = nat_lt p (length plan.names) && machine_may_do now p (machine_next_command plan now p)
machine_enabled plan now (Take p q) = (nat_lt p (length plan.names) && nat_lt q (length plan.names)) && can_take now.state p q

-- no command is left, and all is quiet
abbrev pub machine_is_at_rest : Planned → MachineProgress → Bool
machine_is_at_rest plan now = none_of (length plan.names) (λ p. is_some (slice_get (machine_commands_left plan now p) 0)) && machine_is_quiet (length plan.names) now.state

-- p has done this command, if there is one, and phases have opened
abbrev pub machine_after_command : Planned → MachineProgress → ℕ → Give → Option Command → MachineProgress
machine_after_command plan now p give None = now
machine_after_command plan now p give (Some c) = machine_with_phases_open plan (record now { state = late_step now.state (protocol_step p c.job give); done = at_one p (now.done p + 1) now.done })

-- what a step makes, with what the object gives
abbrev pub after_machine_step : Planned → MachineProgress → Step → Give → MachineProgress
after_machine_step plan now (Do p) give = machine_after_command plan now p give (machine_next_command plan now p)
after_machine_step plan now (Take p q) give = machine_with_phases_open plan (record now { state = late_step now.state (machine.Take p q give.able) })
