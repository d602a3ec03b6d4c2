-- Plans that were worked out by hand, and the steps that are made by default.
use Rattle.std.specs.Prelude.{ℕ, pos, true, Some, None, map, List, [], ◌∷◌, ◌++◌}
use Rattle.kt_spacetime.specs.declared.event.Event.{Event}
use Rattle.kt_spacetime.specs.declared.event.Event.TheVariants.{Sent, Received, Began, Took, Ready, Decided, Closed, Failed}
use Rattle.kt_base.specs.declared.words.Kind.TheVariants as kind
use Rattle.kt_plan.specs.declared.commands.Job.{Job}
use Rattle.kt_plan.specs.declared.commands.Command.{Command}
use Rattle.kt_plan.specs.Limits.{Planned}
use Rattle.kt_plan.specs.declared.commands.Job.TheVariants as job
use Rattle.kt_plan.specs.declared.steps.Step.{Step}
use Rattle.kt_plan.specs.declared.steps.Step.TheVariants.{Do, Take}
use Rattle.kt_plan.specs.declared.steps.Give.{Give}
use Rattle.kt_promises.specs.Runs.{Move}

-- a plan of so many processes, with a sum each, and these commands
abbrev pub worked_plan : List (List ℕ) → List Command → Planned
worked_plan names commands = record { names = names; kinds = map (λ (name : List ℕ). 0) names; commands = commands }

-- two processes, and three
abbrev pub two : List (List ℕ)
two = (97 ∷ []) ∷ (98 ∷ []) ∷ []

abbrev pub three : List (List ℕ)
three = two ++ (99 ∷ []) ∷ []

-- p's command of phase k
abbrev pub command : ℕ → ℕ → Job → Command
command p k j = record { by = p; phase = k; job = j }

-- what each object gives here
abbrev pub given : Give
given = record { able = true; body = pos 7 }

-- steps, with what is given
abbrev pub moves_of : List Step → List Move
moves_of [] = []
moves_of (x ∷ xs) = record { step = x; give = given } ∷ moves_of xs

-- a message, and two phases later a checkpoint, and a message that has to wait for it
abbrev pub checkpoint_two_phases_later : Planned
checkpoint_two_phases_later =
    worked_plan two (command 0 0 (job.Send 1 (Some (pos 5))) ∷ command 1 2 job.Checkpoint ∷ command 1 2 (job.Send 0 None) ∷ command 0 2 job.Fail ∷ [])

-- its default steps: 1 begins the checkpoint, which 0 joins; 1 sends once it has closed, and 0 fails
abbrev pub checkpoint_two_phases_later_steps : List Step
checkpoint_two_phases_later_steps = Do 0 ∷ Take 1 0 ∷ Do 1 ∷ Take 0 1 ∷ Take 1 0 ∷ Take 0 1 ∷ Do 1 ∷ Take 0 1 ∷ Do 0 ∷ []

abbrev pub checkpoint_two_phases_later_log : List Event
checkpoint_two_phases_later_log =
    Sent 0 1 (pos 5) ∷
    Received 1 0 1 ∷
    Began 1 1 kind.Checkpoint ∷
    Took 1 1 ∷
    Took 0 1 ∷
    Decided 1 1 true ∷
    Closed 1 1 ∷
    Closed 0 1 ∷
    Sent 1 0 (pos 7) ∷
    Received 0 1 9 ∷
    Failed 0 ∷
    []

-- its only command is of a later phase
abbrev pub late_message : Planned
late_message = worked_plan two (command 0 3 (job.Send 1 None) ∷ [])

-- 0 rolls back what it sent; 1 joins, and holds what 2 sent it until it has closed; then 0 begins a checkpoint
abbrev pub message_held : Planned
message_held =
    worked_plan three (command 0 0 (job.Send 1 (Some (pos 1))) ∷ command 0 1 job.Rollback ∷ command 2 1 (job.Send 1 (Some (pos 2))) ∷ command 0 2 job.Checkpoint ∷ [])

-- the message is held; and it is received, and the checkpoint begun
abbrev pub until_it_is_held : List Step
until_it_is_held = Do 0 ∷ Take 1 0 ∷ Do 0 ∷ Take 1 0 ∷ Do 2 ∷ Take 1 2 ∷ Take 0 1 ∷ Take 1 0 ∷ []

abbrev pub until_it_is_received : List Step
until_it_is_received = Do 0 ∷ Take 1 0 ∷ Do 0 ∷ Take 1 0 ∷ Do 2 ∷ Take 1 2 ∷ Take 0 1 ∷ Take 1 0 ∷ Take 1 2 ∷ Do 0 ∷ []

abbrev pub message_held_log : List Event
message_held_log =
    Sent 0 1 (pos 1) ∷
    Received 1 0 1 ∷
    Began 0 1 kind.Rollback ∷
    Ready 0 1 ∷
    Ready 1 1 ∷
    Sent 2 1 (pos 2) ∷
    Decided 0 1 true ∷
    Closed 0 1 ∷
    Closed 1 1 ∷
    Received 1 2 6 ∷
    Began 0 2 kind.Checkpoint ∷
    Took 0 2 ∷
    Decided 0 2 true ∷
    Closed 0 2 ∷
    []
