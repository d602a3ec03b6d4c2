-- The step that is made where none is chosen, by what code has.
use Rattle.std.specs.Prelude.{ℕ, ◌==◌, ◌&&◌, Bool, false, Option, Some, None, is_some, option_map, take, length, slice_get, if◌then◌else◌, zero, suc}
use Rattle.kt_plan.specs.declared.commands.Command.{Command}
use Rattle.kt_plan.specs.Limits.{Planned}
use Rattle.kt_meaning.specs.Follows.{commands_of}
use Rattle.kt_plan.specs.declared.steps.Step.{Step}
use Rattle.kt_plan.specs.declared.steps.Step.TheVariants.{Do, Take}
use Rattle.kt_promises.specs.Progress.{Progress}
use Rattle.kt_promises.specs.Steps.{enabled}

-- the number that is there, or else n if the test passed
abbrev pub or_this : Option ℕ → ℕ → Bool → Option ℕ
or_this (Some i) n b = Some i
or_this None n b = if b then Some n else None

-- the least number below n that passes the test
abbrev pub least_below : ℕ → (ℕ → Bool) → Option ℕ
least_below zero f = None
least_below (suc n) f = or_this (least_below n f) n (f n)

-- the step of a command's process
abbrev pub step_of_command : Option Command → Option Step
step_of_command None = None
step_of_command (Some c) = Some (Do c.by)

-- the step of the command at a place
abbrev pub step_at : Planned → Option ℕ → Option Step
step_at plan None = None
step_at plan (Some i) = step_of_command (slice_get plan.commands i)

-- this command, at place i, is the next one of its process, and may be done
abbrev pub is_turn_of : Planned → Progress → ℕ → Option Command → Bool
is_turn_of plan w i None = false
is_turn_of plan w i (Some c) =
    length (commands_of c.by (take i plan.commands)) == w.done c.by && enabled plan w (Do c.by)

-- so is the one at place i
abbrev pub is_turn : Planned → Progress → ℕ → Bool
is_turn plan w i = is_turn_of plan w i (slice_get plan.commands i)

-- the least process of which p may take something
abbrev pub least_sender : Planned → Progress → ℕ → Option ℕ
least_sender plan w p = least_below (length plan.names) (λ q. enabled plan w (Take p q))

-- p takes of the least such process; where there is no p, the first command that may be done is done
abbrev pub take_or_command : Planned → Progress → Option ℕ → Option Step
take_or_command plan w (Some p) = option_map (λ q. Take p q) (least_sender plan w p)
take_or_command plan w None = step_at plan (least_below (length plan.commands) (λ i. is_turn plan w i))

-- the least process that may take something does; a command is done only where nobody may
abbrev pub default_step : Planned → Progress → Option Step
default_step plan w = take_or_command plan w (least_below (length plan.names) (λ p. is_some (least_sender plan w p)))
