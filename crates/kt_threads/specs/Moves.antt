-- Steps that were made, as the moves of a run of their plan.
use Rattle.kt_promises.specs.Runs.{Move}
use Rattle.kt_threads.specs.declared.state.Made.{Made}

-- a step that was made, as a move: the step, and what it was given
abbrev pub move_of : Made → Move
move_of made = record { step = made.told.step; give = made.give }
