-- What the steps of a run tell each process.
use Rattle.std.specs.Prelude.{ℕ, ◌==◌, if◌then◌else◌, List, [], ◌∷◌, ◌++◌}
use Rattle.kt_spacetime.specs.declared.event.Event.{Event}
use Rattle.kt_spacetime.specs.Events.{process_of}
use Rattle.kt_machine.specs.Values.{Act}
use Rattle.kt_plan.specs.Limits.{Planned}
use Rattle.kt_plan.specs.declared.steps.Step.{Step}
use Rattle.kt_plan.specs.declared.steps.Give.{Give}
use Rattle.kt_promises.specs.Steps.{process_of_step, progress_after}
use Rattle.kt_promises.specs.Runs.{Move}
use Rattle.kt_promises.specs.Progress.{Progress}
use Rattle.kt_promises.specs.StepActs.{rows_added, acts_of_step}

-- a step, what was given at it, the rows that it adds, and the acts of its process
pub record StepTold : Type 0 where
  pub step : Step
  pub give : Give
  pub rows : List Event
  pub acts : List Act

-- what a move tells here
abbrev pub told_at : Planned → Progress → Move → StepTold
told_at plan w x = record {
  step = x.step;
  give = x.give;
  rows = rows_added plan w x.step x.give;
  acts = acts_of_step plan w x.step x.give (process_of_step x.step);
}

-- what p is told by a move: nothing by another process's one
abbrev pub told_by_move : Planned → Progress → ℕ → Move → List StepTold
told_by_move plan w p x = if p == process_of_step x.step then told_at plan w x ∷ [] else []

-- and by some moves, in order
abbrev pub told_by : Planned → Progress → ℕ → List Move → List StepTold
told_by plan w p [] = []
told_by plan w p (x ∷ xs) = told_by_move plan w p x ++ told_by plan (progress_after plan w x.step x.give) p xs

-- all acts that are told, in order
abbrev pub acts_told : List StepTold → List Act
acts_told [] = []
acts_told (x ∷ xs) = x.acts ++ acts_told xs

-- all rows
abbrev pub rows_told : List StepTold → List Event
rows_told [] = []
rows_told (x ∷ xs) = x.rows ++ rows_told xs

-- the rows of p among some rows
abbrev pub rows_by : ℕ → List Event → List Event
rows_by p [] = []
rows_by p (row ∷ rows) = if p == process_of row then row ∷ rows_by p rows else rows_by p rows

-- the rows that some moves add
abbrev pub rows_along : Planned → Progress → List Move → List Event
rows_along plan w [] = []
rows_along plan w (x ∷ xs) = rows_added plan w x.step x.give ++ rows_along plan (progress_after plan w x.step x.give) xs
