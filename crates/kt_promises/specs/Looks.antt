-- What a step asks of the object of its process, by what code has.
use Rattle.std.specs.Prelude.{ℕ, ◌==◌, ◌&&◌, not, if◌then◌else◌, Option, Some, None, List, ◌∷◌, Bool, false, true}
use Rattle.kt_fifo.specs.declared.parcels.Parcel.{Parcel}
use Rattle.kt_fifo.specs.declared.parcels.Parcel.TheVariants.{Ask}
use Rattle.kt_meaning.specs.Past.{is_rollback_kind}
use Rattle.kt_machine.specs.Seen.{Seen}
use Rattle.kt_machine.specs.Transition.{is_seen_ready}
use Rattle.kt_machine.specs.CallTests.{must_take}
use Rattle.kt_plan.specs.declared.commands.Command.{Command}
use Rattle.kt_plan.specs.Limits.{Planned}
use Rattle.kt_plan.specs.declared.steps.Step.{Step}
use Rattle.kt_plan.specs.declared.steps.Step.TheVariants.{Do, Take}
use Rattle.kt_plan.specs.declared.steps.Look.{Look}
use Rattle.kt_plan.specs.declared.steps.Look.TheVariants.{Idle, NeedsSave, Plain, NeedsBody}
use Rattle.kt_fifo.specs.Queues.{has_parcel}
use Rattle.kt_promises.specs.Progress.{Progress, next_command}
use Rattle.kt_promises.specs.Steps.{enabled}
use Rattle.kt_plan.specs.declared.commands.Job.{Job}
use Rattle.kt_plan.specs.declared.commands.Job.TheVariants as job

-- of a job: whether its process is in no instance, and up
abbrev pub look_of_job : Bool → Bool → Job → Look
look_of_job closed up (job.Send q None) = if up then NeedsBody else Plain
look_of_job closed up job.Checkpoint = if closed && up then NeedsSave else Plain
look_of_job closed up _ = Plain

-- it counts whether the object can be saved
abbrev pub uses_able : Look → Bool
uses_able NeedsSave = true
uses_able _ = false

-- it counts which body the object offers
abbrev pub uses_body : Look → Bool
uses_body NeedsBody = true
uses_body _ = false

-- of p's command, if it has one
abbrev pub look_of_command : Progress → ℕ → Option Command → Look
look_of_command w p None = Plain
look_of_command w p (Some c) = look_of_job ((w.now.states p).inst == 0) (w.now.states p).up c.job

-- of what is in front in the channel from q: an ask that makes p take a checkpoint needs to know whether its object can
-- be saved
abbrev pub look_of_front : Seen → ℕ → ℕ → List Parcel → Look
look_of_front v p q (Ask k kind l ∷ rest) =
    if ((v.states p).inst == 0 && not (is_rollback_kind (Some kind)))
    && (must_take (v.states p).calls q l && (v.states p).up) then NeedsSave else Plain
look_of_front v p q _ = Plain

-- of an enabled step: a message that is held asks for nothing
abbrev pub look_of_step : Planned → Progress → Step → Look
look_of_step plan w (Do p) = look_of_command w p (next_command plan w p)
look_of_step plan w (Take p q) =
    if not (is_seen_ready w.now p) && has_parcel (w.now.held q p) then Plain else look_of_front w.now p q (w.now.channel q p)

-- what a step asks of the object
abbrev pub look : Planned → Progress → Step → Look
look plan w x = if enabled plan w x then look_of_step plan w x else Idle
