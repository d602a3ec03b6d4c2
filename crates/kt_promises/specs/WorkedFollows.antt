-- Logs that were worked out by hand: those of a plan, and legal ones that are not.
use Rattle.std.specs.Prelude.{pos, Some, None, List, [], ◌∷◌, take}
use Rattle.kt_base.specs.declared.words.Kind.TheVariants as kind
use Rattle.kt_spacetime.specs.declared.event.Event.{Event}
use Rattle.kt_spacetime.specs.declared.event.Event.TheVariants.{Sent, Received, Dropped, Began, Took, Failed}
use Rattle.kt_plan.specs.Limits.{Planned}
use Rattle.kt_plan.specs.declared.commands.Job.TheVariants as job
use Rattle.kt_plan.specs.declared.steps.Step.{Step}
use Rattle.kt_plan.specs.declared.steps.Step.TheVariants.{Do, Take}
use Rattle.kt_promises.specs.WorkedPlans.{worked_plan, two, command}

-- 0 sends 1 two messages, the second with any body
abbrev pub two_messages : Planned
two_messages = worked_plan two (command 0 0 (job.Send 1 (Some (pos 5))) ∷ command 0 0 (job.Send 1 None) ∷ [])

-- in the next phase 1 fails
abbrev pub two_messages_then_failure : Planned
two_messages_then_failure =
    worked_plan two (command 0 0 (job.Send 1 (Some (pos 5))) ∷ command 0 0 (job.Send 1 None) ∷ command 1 1 job.Fail ∷ [])

abbrev pub two_messages_then_failure_steps : List Step
two_messages_then_failure_steps = Do 0 ∷ Do 0 ∷ Take 1 0 ∷ Take 1 0 ∷ Do 1 ∷ []

-- a log of it
abbrev pub both_arrive : List Event
both_arrive = Sent 0 1 (pos 5) ∷ Sent 0 1 (pos 7) ∷ Received 1 0 1 ∷ Received 1 0 2 ∷ Failed 1 ∷ []

-- the second command is left out
abbrev pub one_left_out : List Event
one_left_out = Sent 0 1 (pos 5) ∷ Received 1 0 1 ∷ Failed 1 ∷ []

-- the commands of 0 are swapped
abbrev pub swapped : List Event
swapped = Sent 0 1 (pos 7) ∷ Sent 0 1 (pos 5) ∷ Received 1 0 1 ∷ Received 1 0 2 ∷ Failed 1 ∷ []

-- a row of the later phase comes before one of the earlier
abbrev pub too_early : List Event
too_early = Sent 0 1 (pos 5) ∷ Received 1 0 1 ∷ Failed 1 ∷ Sent 0 1 (pos 7) ∷ Dropped 1 0 4 ∷ []

-- the later phase begins while a message is in transit
abbrev pub not_quiet : List Event
not_quiet = Sent 0 1 (pos 5) ∷ Sent 0 1 (pos 7) ∷ Received 1 0 1 ∷ Failed 1 ∷ Dropped 1 0 2 ∷ []

-- of the two messages alone: the second is still in transit at the end
abbrev pub one_arrives : List Event
one_arrives = take 3 both_arrive

-- 1 fails before a message comes, and drops it
abbrev pub failure_before_message : Planned
failure_before_message = worked_plan two (command 0 0 (job.Send 1 (Some (pos 5))) ∷ command 1 0 job.Fail ∷ [])

abbrev pub failure_before_message_steps : List Step
failure_before_message_steps = Do 0 ∷ Do 1 ∷ Take 1 0 ∷ []

abbrev pub one_dropped : List Event
one_dropped = Sent 0 1 (pos 5) ∷ Failed 1 ∷ Dropped 1 0 1 ∷ []

-- a checkpoint, and its instance is not decided
abbrev pub one_checkpoint : Planned
one_checkpoint = worked_plan two (command 0 0 job.Checkpoint ∷ [])

abbrev pub undecided : List Event
undecided = Began 0 1 kind.Checkpoint ∷ Took 0 1 ∷ []
