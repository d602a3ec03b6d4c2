-- The steps of a plan, by what code has: when one may be made, and what it makes.
use Rattle.std.specs.Prelude.{length, ℕ, ◌+◌, ◌==◌, ◌&&◌, ◌||◌, not, nat_lt, Bool, false, Option, Some, None, ℤ, true, is_some, unwrap_or}
use Rattle.kt_meaning.specs.Past.{at_one}
use Rattle.kt_protocol.specs.Deciding.{none_of}
use Rattle.kt_protocol.specs.States as machine
use Rattle.kt_machine.specs.Seen.{Seen}
use Rattle.kt_machine.specs.Transition.{is_seen_ready, transition}
use Rattle.kt_plan.specs.declared.commands.Command.{Command}
use Rattle.kt_plan.specs.Limits.{Planned}
use Rattle.kt_plan.specs.declared.steps.Step.{Step}
use Rattle.kt_plan.specs.declared.steps.Step.TheVariants.{Do, Take}
use Rattle.kt_plan.specs.declared.steps.Give.{Give}
use Rattle.kt_fifo.specs.Queues.{has_parcel}
use Rattle.kt_promises.specs.Progress.{Progress, commands_left, next_command, is_quiet, with_phases_open}
use Rattle.kt_plan.specs.declared.commands.Job.{Job}
use Rattle.kt_plan.specs.declared.commands.Job.TheVariants as job

-- a send waits while its process is in an instance; other jobs are done there too, if only to be refused
abbrev pub may_do_job : Bool → Job → Bool
may_do_job closed (job.Send q body) = closed
may_do_job closed _ = true

-- the protocol's step for p's job: a send has the body of the command or, if it has none, the one that is offered
abbrev pub protocol_step : ℕ → Job → Give → machine.ProtocolStep
protocol_step p (job.Send q body) give = machine.Send p q (unwrap_or body give.body)
protocol_step p job.Checkpoint give = machine.Begin p false give.able
protocol_step p job.Rollback give = machine.Begin p true give.able
protocol_step p job.Fail give = machine.Fail p

-- whose step it is
abbrev pub process_of_step : Step → ℕ
process_of_step (Do p) = p
process_of_step (Take p q) = p

-- p may do this command next: it is of the open phase, and a send waits while its process is in an instance
abbrev pub may_do : Progress → ℕ → Option Command → Bool
may_do w p None = false
may_do w p (Some c) = c.phase == w.phase && may_do_job ((w.now.states p).inst == 0) c.job

-- p has something of q to take: what is in the channel, or a message that it holds and is in no rollback to apply
abbrev pub can_take_from : Seen → ℕ → ℕ → Bool
can_take_from v p q = has_parcel (v.channel q p) || not (is_seen_ready v p) && has_parcel (v.held q p)

-- a step may be made
abbrev pub enabled : Planned → Progress → Step → Bool
enabled plan w (Do p) = nat_lt p (length plan.names) && may_do w p (next_command plan w p)
enabled plan w (Take p q) = (nat_lt p (length plan.names) && nat_lt q (length plan.names)) && can_take_from w.now p q

-- no command is left, and all is quiet
abbrev pub is_at_rest : Planned → Progress → Bool
is_at_rest plan w = none_of (length plan.names) (λ p. is_some (next_command plan w p)) && is_quiet (length plan.names) w.now

-- p has done this command, if there is one, and phases have opened
abbrev pub after_command : Planned → Progress → ℕ → Give → Option Command → Progress
after_command plan w p give None = w
after_command plan w p give (Some c) =
    with_phases_open plan (record w {
      now = transition w.now (protocol_step p c.job give);
      done = at_one p (w.done p + 1) w.done;
    })

-- what a step makes, with what the object gives
abbrev pub progress_after : Planned → Progress → Step → Give → Progress
progress_after plan w (Do p) give = after_command plan w p give (next_command plan w p)
progress_after plan w (Take p q) give =
    with_phases_open plan (record w { now = transition w.now (machine.Take p q give.able) })
