-- What a run tells its processes.
use Rattle.std.specs.Prelude.{◌≡◌, ◌<◌, ◌+◌, ◌==◌, ℕ, List, [], ◌∷◌, ◌++◌, All, Option, filter, map, length, slice_index_or, if◌then◌else◌}
use Rattle.std.specs.List.{AllZip, filter_map}
use Rattle.kt_promises.specs.Steps.{process_of_step}
use Rattle.kt_promises.specs.Runs.{Move}
use Rattle.kt_plan.specs.Limits.{Planned}
use Rattle.kt_plan.specs.declared.steps.Told.{Told}
use Rattle.kt_promises.specs.Told.{StepTold, told_by}
use Rattle.kt_promises.specs.Progress.{progress_at_start}
use Rattle.kt_spacetime.specs.Events.{process_of}
use Rattle.kt_spacetime.specs.declared.event.Event.{Event}
use Rattle.kt_manager.specs.ShownActs.{acts_shown}

-- rows with their numbers, which go on after so many rows
abbrev pub numbered : ℕ → List Event → List (ℕ × Event)
numbered count [] = []
numbered count (row ∷ rows) = (count + 1, row) ∷ numbered (count + 1) rows

-- the rows that a step tells, with their numbers
abbrev pub rows_of : Told → List (ℕ × Event)
rows_of told = filter_map (λ (row : Option (ℕ × Event)). row) told.rows

-- those that some steps tell, in order
abbrev pub numbered_rows_told : List Told → List (ℕ × Event)
numbered_rows_told [] = []
numbered_rows_told (told ∷ more) = rows_of told ++ numbered_rows_told more

-- the rows of one process in a log, with their numbers
abbrev pub numbered_rows_by : ℕ → List Event → List (ℕ × Event)
numbered_rows_by p log = filter (λ row. process_of row.1 == p) (numbered 0 log)

-- each process is told its own rows of the log, each once and in order, with their numbers
abbrev pub AreToldTheirRows : List Event → List (List Told) → Type 0
AreToldTheirRows log told = (p : ℕ) → p < length told → numbered_rows_told (slice_index_or told p []) ≡ numbered_rows_by p log

-- a step adds rows of its process to a log, and tells them with their numbers
pub record TellsItsRows (told : Told) (before after : List Event) : Type 0 where
  pub added : List Event
  pub log : after ≡ before ++ added
  pub rows : rows_of told ≡ numbered (length before) added
  pub own : All (λ row. process_of row ≡ process_of_step told.step) added

-- the same step, the same rows but for their numbers, and the same acts, as a run tells
pub record IsToldAs (told : Told) (in_run : StepTold) : Type 0 where
  pub step : told.step ≡ in_run.step
  pub rows : map (λ row. row.1) (rows_of told) ≡ in_run.rows
  pub acts : acts_shown told.acts ≡ in_run.acts

-- each process is told, step for step, what a run by these moves tells it
abbrev pub AreToldInRun : Planned → List Move → List (List Told) → Type 0
AreToldInRun plan moves told =
    (p : ℕ) → p < length told → AllZip IsToldAs (slice_index_or told p [])
    (told_by plan (progress_at_start plan 0) p moves)

-- no process is told anything yet
abbrev pub AreEmpty : List (List Told) → Type 0
AreEmpty told = (p : ℕ) → slice_index_or told p [] ≡ []

-- what one of the processes is told by a step
abbrev pub told_here : ℕ → Told → List Told
told_here p told = if p == process_of_step told.step then told ∷ [] else []

-- what a step tells is noted of its process, and nothing of the others
pub record IsNoted (told : Told) (old new : List (List Told)) : Type 0 where
  pub count : length new ≡ length old
  pub each : (p : ℕ) → p < length old → slice_index_or new p [] ≡ slice_index_or old p [] ++ told_here p told
