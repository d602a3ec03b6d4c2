-- What stands in the way of a step that is not enabled.
use Rattle.std.specs.Prelude.{length, ℕ, ◌==◌, not, nat_lt, if◌then◌else◌, Option, Some, None}
use Rattle.kt_plan.specs.declared.commands.Command.{Command}
use Rattle.kt_plan.specs.Limits.{Planned}
use Rattle.kt_plan.specs.declared.steps.Step.{Step}
use Rattle.kt_plan.specs.declared.steps.Step.TheVariants.{Do, Take}
use Rattle.kt_promises.specs.Progress.{Progress, next_command}
use Rattle.kt_promises.specs.Steps.{may_do_job, enabled}
use Rattle.kt_promises.specs.declared.hindrances.Hindrance.{Hindrance}
use Rattle.kt_promises.specs.declared.hindrances.Hindrance.TheVariants.{NoCommand, PhaseNotOpen, SendInInstance, NoParcel}

-- in that of p's next command: there is none, or its phase is not open, or it is a send of a process in an instance
abbrev pub hindrance_of_command : Progress → ℕ → Option Command → Option Hindrance
hindrance_of_command w p None = Some NoCommand
hindrance_of_command w p (Some c) =
    if not (c.phase == w.phase) then Some PhaseNotOpen
    else if may_do_job ((w.now.states p).inst == 0) c.job then None
    else Some SendInInstance

-- what stands in the way of a step, if anything does; who is no process of the plan has no command and no parcel
abbrev pub hindrance : Planned → Progress → Step → Option Hindrance
hindrance plan w (Do p) =
    if nat_lt p (length plan.names) then hindrance_of_command w p (next_command plan w p) else Some NoCommand
hindrance plan w (Take p q) = if enabled plan w (Take p q) then None else Some NoParcel
