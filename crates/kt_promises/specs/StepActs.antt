-- The rows that a step adds to the log, and the acts that these ask of a process.
use Rattle.std.specs.Prelude.{ℕ, ◌&&◌, Bool, true, false, List, [], ◌∷◌, drop, length}
use Rattle.kt_spacetime.specs.declared.event.Event.{Event}
use Rattle.kt_machine.specs.Done.{done}
use Rattle.kt_machine.specs.Values.{Act, Keep, acts_along}
use Rattle.kt_plan.specs.Limits.{Planned}
use Rattle.kt_plan.specs.declared.steps.Step.{Step}
use Rattle.kt_plan.specs.declared.steps.Give.{Give}
use Rattle.kt_promises.specs.Progress.{Progress}
use Rattle.kt_promises.specs.Steps.{progress_after}

-- the rows that a step adds
abbrev pub rows_added : Planned → Progress → Step → Give → List Event
rows_added plan w x give = drop (length w.now.log) (progress_after plan w x give).now.log

-- the acts that these ask of p
abbrev pub acts_of_step : Planned → Progress → Step → Give → ℕ → List Act
acts_of_step plan w x give p = acts_along p (done w.now.log) (rows_added plan w x give)

-- a state is kept as the first act alone, and only where the object can be saved
abbrev pub keeps_only_first : Bool → List Act → Bool
keeps_only_first saved [] = true
keeps_only_first saved (Keep ∷ acts) = saved && keeps_only_first false acts
keeps_only_first saved (_ ∷ acts) = keeps_only_first false acts
