-- Runs of plans that were worked out by hand, by what code has: labels are not the numbers of messages.
use Rattle.std.specs.Prelude.{ℕ, zero, suc, pos, true, false, Option, Some, None, option_map, List, [], ◌∷◌, ◌++◌}
use Rattle.kt_base.specs.declared.words.Cause.TheVariants.{Down, NoSave}
use Rattle.kt_base.specs.declared.words.Kind.TheVariants as kind
use Rattle.kt_base.specs.declared.words.Verb.TheVariants as verb
use Rattle.kt_spacetime.specs.declared.event.Event.{Event}
use Rattle.kt_spacetime.specs.declared.event.Event.TheVariants.{Sent, Received, Began, Took, Ready, Unwilling, Decided, Closed, Refused}
use Rattle.kt_plan.specs.Limits.{Planned}
use Rattle.kt_plan.specs.declared.commands.Job.TheVariants as job
use Rattle.kt_plan.specs.declared.steps.Step.{Step}
use Rattle.kt_plan.specs.declared.steps.Step.TheVariants.{Do, Take}
use Rattle.kt_plan.specs.declared.steps.Give.{Give}
use Rattle.kt_promises.specs.Runs.{Move, after_moves}
use Rattle.kt_promises.specs.WorkedPlans.{worked_plan, two, three, command, given, moves_of, checkpoint_two_phases_later, checkpoint_two_phases_later_steps, checkpoint_two_phases_later_log, until_it_is_held}
use Rattle.kt_promises.specs.Progress.{Progress, progress_at_start}
use Rattle.kt_promises.specs.Steps.{progress_after}
use Rattle.kt_promises.specs.Defaults.{default_step}
use Rattle.kt_promises.specs.Tallies.{Tallies, no_tallies, tallies_along}

-- where labels begin after 100: the start, and where some moves lead
abbrev pub start_after_hundred : Planned → Progress
start_after_hundred plan = progress_at_start plan 100

abbrev pub led_by : Planned → List Move → Option Progress
led_by plan moves = after_moves plan (start_after_hundred plan) moves

-- what is so where some moves lead
abbrev pub at_end : {X : Type 0} → Planned → List Move → (Progress → X) → Option X
at_end plan moves f = option_map f (led_by plan moves)

-- what the instances put along some moves
abbrev pub put_by : Planned → List Move → Tallies
put_by plan moves = tallies_along plan (start_after_hundred plan) moves no_tallies

-- at most n default steps from here, with the next one
abbrev pub steps_from : ℕ → Planned → Progress → Option Step → List Step
steps_from zero plan w next = []
steps_from (suc n) plan w None = []
steps_from (suc n) plan w (Some x) =
    x ∷ steps_from n plan (progress_after plan w x given) (default_step plan (progress_after plan w x given))

-- and from the start
abbrev pub default_steps : ℕ → Planned → List Step
default_steps n plan = steps_from n plan (start_after_hundred plan) (default_step plan (start_after_hundred plan))

-- so many gives
abbrev pub gives : ℕ → List Give
gives zero = []
gives (suc n) = given ∷ gives n

-- a message; two phases later a checkpoint, a message that has to wait for it, and two failures, the second of which is
-- refused
abbrev pub fails_twice : Planned
fails_twice = worked_plan two (checkpoint_two_phases_later.commands ++ command 0 2 job.Fail ∷ [])

abbrev pub fails_twice_steps : List Step
fails_twice_steps = checkpoint_two_phases_later_steps ++ Do 0 ∷ []

abbrev pub fails_twice_log : List Event
fails_twice_log = checkpoint_two_phases_later_log ++ Refused 0 verb.Fail Down ∷ []

-- 0 rolls back what it sent, and 1 joins; 1 holds what 2 sent it until it has closed; then 1 can't be saved in a
-- checkpoint of 0 that it would have to join, which is aborted
abbrev pub rolls_back_then_aborts : Planned
rolls_back_then_aborts =
    worked_plan three (
    command 0 0 (job.Send 1 (Some (pos 1))) ∷
    command 0 1 job.Rollback ∷
    command 2 1 (job.Send 1 (Some (pos 2))) ∷
    command 1 2 (job.Send 0 (Some (pos 3))) ∷
    command 0 3 job.Checkpoint ∷
    [])

-- until 1 holds the message, and until all commands of that phase are done while it still holds it
abbrev pub until_it_holds : List Move
until_it_holds = moves_of (Do 0 ∷ Take 1 0 ∷ Do 0 ∷ Take 1 0 ∷ Do 2 ∷ Take 1 2 ∷ [])

abbrev pub until_all_are_done : List Move
until_all_are_done = moves_of until_it_is_held

-- all moves: at one of them the object of 1 can't be saved
abbrev pub rolls_back_then_aborts_moves : List Move
rolls_back_then_aborts_moves =
    until_all_are_done
    ++ moves_of (Take 1 2 ∷ Do 1 ∷ Take 0 1 ∷ Do 0 ∷ [])
    ++ record { step = Take 1 0; give = record { able = false; body = pos 0 } } ∷ moves_of (Take 0 1 ∷ Take 1 0 ∷ [])

abbrev pub rolls_back_then_aborts_log : List Event
rolls_back_then_aborts_log =
    Sent 0 1 (pos 1) ∷
    Received 1 0 1 ∷
    Began 0 1 kind.Rollback ∷
    Ready 0 1 ∷
    Ready 1 1 ∷
    Sent 2 1 (pos 2) ∷
    Decided 0 1 true ∷
    Closed 0 1 ∷
    Closed 1 1 ∷
    Received 1 2 6 ∷
    Sent 1 0 (pos 3) ∷
    Received 0 1 11 ∷
    Began 0 2 kind.Checkpoint ∷
    Took 0 2 ∷
    Unwilling 1 2 NoSave ∷
    Decided 0 2 false ∷
    Closed 0 2 ∷
    []
