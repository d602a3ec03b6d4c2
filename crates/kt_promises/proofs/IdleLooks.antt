-- A step asks for nothing at all exactly where it is not enabled.
use Rattle.std.proofs.Common.{◌≡◌, ◌≢◌, ℕ, Bool, false, List, ◌∷◌, refl, Some, None}
use Rattle.std.specs.Prelude.{Option, ◌↔◌, ◌==◌, ◌&&◌, not}
use Rattle.kt_meaning.specs.Past.{is_rollback_kind}
use Rattle.kt_fifo.specs.declared.parcels.Parcel.{Parcel}
use Rattle.kt_fifo.specs.declared.parcels.Parcel.TheVariants.{Ask}
use Rattle.kt_protocol.proofs.Choices.{at_if}
use Rattle.kt_machine.specs.Seen.{Seen}
use Rattle.kt_machine.specs.Transition.{is_seen_ready}
use Rattle.kt_machine.specs.CallTests.{must_take}
use Rattle.kt_plan.specs.declared.commands.Job.{Job}
use Rattle.kt_plan.specs.declared.commands.Command.{Command}
use Rattle.kt_plan.specs.Limits.{Planned}
use Rattle.kt_plan.specs.declared.commands.Job.TheVariants as job
use Rattle.kt_plan.specs.declared.steps.Step.{Step}
use Rattle.kt_plan.specs.declared.steps.Step.TheVariants.{Do, Take}
use Rattle.kt_plan.specs.declared.steps.Look.{Look}
use Rattle.kt_plan.specs.declared.steps.Look.TheVariants.{Idle, NeedsSave, NeedsBody, Plain}
use Rattle.kt_promises.specs.Looks.{look_of_job, look_of_command, look_of_front, look_of_step, look}
use Rattle.kt_fifo.specs.Queues.{has_parcel}
use Rattle.kt_promises.specs.Progress.{Progress, next_command}
use Rattle.kt_promises.specs.Steps.{enabled}

plain : Plain ≢ Idle
plain e = cc (e)

saves : NeedsSave ≢ Idle
saves e = cc (e)

offers : NeedsBody ≢ Idle
offers e = cc (e)

job_asks : (closed up : Bool) (j : Job) → look_of_job closed up j ≢ Idle
job_asks closed up (job.Send q None) = at_if (λ (l : Look). l ≢ Idle) up NeedsBody Plain (λ _. offers) (λ _. plain)
job_asks closed up (job.Send q (Some b)) = plain
job_asks closed up job.Checkpoint = at_if (λ (l : Look). l ≢ Idle) (closed && up) NeedsSave Plain (λ _. saves) (λ _. plain)
job_asks closed up job.Rollback = plain
job_asks closed up job.Fail = plain

command_asks : (w : Progress) (p : ℕ) (o : Option Command) → look_of_command w p o ≢ Idle
command_asks w p None = plain
command_asks w p (Some c) = job_asks ((w.now.states p).inst == 0) (w.now.states p).up c.job

front_asks : (v : Seen) (p q : ℕ) (l : List Parcel) → look_of_front v p q l ≢ Idle
front_asks v p q (Ask k kind l ∷ rest) = at_if (λ (x : Look). x ≢ Idle) (((v.states p).inst == 0 && not (is_rollback_kind (Some kind))) && (must_take (v.states p).calls q l && (v.states p).up)) NeedsSave Plain (λ _. saves) (λ _. plain)
front_asks v p q _ = plain

step_asks : (plan : Planned) (w : Progress) (x : Step) → look_of_step plan w x ≢ Idle
step_asks plan w (Do p) = command_asks w p (next_command plan w p)
step_asks plan w (Take p q) = at_if (λ (x : Look). x ≢ Idle) (not (is_seen_ready w.now p) && has_parcel (w.now.held q p)) Plain (look_of_front w.now p q (w.now.channel q p)) (λ _. plain) (λ _. front_asks w.now p q (w.now.channel q p))

pub idle_exactly : (plan : Planned) (w : Progress) (x : Step) → (look plan w x ≡ Idle) ↔ (enabled plan w x ≡ false)
idle_exactly plan w x = (
  λ e. at_if (λ (l : Look). l ≡ Idle → enabled plan w x ≡ false) (enabled plan w x) (look_of_step plan w x) Idle (λ b f. absurd (step_asks plan w x f)) (λ b f. b) e,
  λ b. rw b refl,
)
