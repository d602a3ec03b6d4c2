-- What the steps of processes tell them, as a run does.
use Rattle.std.specs.Prelude.{List, map}
use Rattle.kt_plan.specs.Limits.{Planned}
use Rattle.kt_plan.specs.declared.steps.Told.{Told}
use Rattle.kt_run.specs.Telling.{AreToldInRun}
use Rattle.kt_threads.specs.Moves.{move_of}
use Rattle.kt_threads.specs.declared.state.Made.{Made}

-- each process is told, step for step, what a run by these steps tells it
abbrev pub AreToldAsInRun : Planned → List Made → List (List Told) → Type 0
AreToldAsInRun plan steps told = AreToldInRun plan (map move_of steps) told
