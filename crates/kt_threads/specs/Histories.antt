-- Steps that were made one after another, and the worlds between which they lead.
use Rattle.std.specs.Prelude.{◌≡◌, ◌<◌, ◌+◌, ◌^◌, ◌==◌, ℕ, List, [], ◌∷◌, Option, Some, None, filter, map, length, slice_get, slice_index_or}
use Rattle.kt_core.specs.Making.{KeepsPlan, MakesStep}
use Rattle.kt_core.specs.Shown as core
use Rattle.kt_core.specs.Worlds.{World, IsOpening, IsWorldAtRest, IsSameWorld, numbered_row, step_refusal}
use Rattle.kt_promises.specs.Steps.{process_of_step}
use Rattle.kt_object.specs.Holdings.{Content}
use Rattle.kt_plan.specs.Limits.{Planned}
use Rattle.kt_plan.specs.declared.steps.Told.{Told}
use Rattle.kt_promises.specs.Looks as run_looks
use Rattle.kt_promises.specs.Progress.{Progress, progress_at_start}
use Rattle.kt_run.specs.Runs.{IsRun}
use Rattle.kt_spacetime.specs.declared.event.Event.{Event}
use Rattle.kt_threads.specs.declared.asked.Errand.{Errand}
use Rattle.kt_threads.specs.declared.faults.LiveFault.{LiveFault}
use Rattle.kt_threads.specs.declared.state.Made.{Made}
use Rattle.kt_threads.specs.Errands.{errands_of}
use Rattle.kt_threads.specs.Moves.{move_of}
use Rattle.kt_threads.specs.Telling.{AreToldAsInRun}

-- a step that is not refused leads from one world to another, and tells its rows and its acts; in a run of the plan that
-- leads to the one it needs what is recorded
pub record IsMade (old : World) (made : Made) (new : World) : Type 0 where
  pub allowed : step_refusal old made.told.step ≡ None
  pub keeps : KeepsPlan old new
  pub makes : MakesStep old made.told.step made.give made.told.acts new
  pub four : length made.told.rows ≡ 4
  pub rows : (i : ℕ) → i < 4 → slice_get made.told.rows i
      ≡ Some (numbered_row new.system.rows.rows (length old.system.rows.rows + i))
  pub look : (first : ℕ) (v : Progress) → core.Mirrors old.agenda old.system first v → made.look
      ≡ run_looks.look old.agenda.plan v made.told.step

-- steps lead one after another from one world to another, where only spare room may come between
abbrev pub StepsLead : World → List Made → World → Type 0
StepsLead old [] new = IsSameWorld new old
StepsLead old (made ∷ steps) new = (before : World) × (after : World) × IsSameWorld before old × IsMade before made after × StepsLead after steps new

-- steps lead to a world from the one in which nothing of a plan is done, where its runs start
pub record IsHistory (plan : Planned) (steps : List Made) (world : World) : Type 0 where
  pub begin : World
  pub opening : IsOpening begin plan 0 (2 ^ 24)
  pub starts : core.Mirrors begin.agenda begin.system 0 (progress_at_start plan 0)
  pub leads : StepsLead begin steps world

-- a world, the steps that led to it, and the first fault
pub record WorldHistory : Type 0 where
  pub world : World
  pub steps : List Made
  pub fault : Option LiveFault

-- the fault that was first, where another one comes
abbrev pub first_fault : Option LiveFault → LiveFault → Option LiveFault
first_fault None fault = Some fault
first_fault (Some first) fault = Some first

-- the steps of a process, in order
abbrev pub made_by : ℕ → List Made → List Made
made_by p steps = filter (λ (made : Made). process_of_step made.told.step == p) steps

-- what they tell
abbrev pub told_to : ℕ → List Made → List Told
told_to p steps = map (λ (made : Made). made.told) (made_by p steps)

-- steps lead to a world at rest, with these rows, from the one in which nothing of a plan is done
pub record IsWholeHistory (plan : Planned) (steps : List Made) (rows : List Event) : Type 0 where
  pub end : World
  pub history : IsHistory plan steps end
  pub rest : IsWorldAtRest end
  pub log : rows ≡ end.system.rows.rows

-- each process has a list of what its own steps asked of its object
pub record AreTheirs (processes : ℕ) (steps : List Made) (lists : List (List Errand)) : Type 0 where
  pub count : length lists ≡ processes
  pub each : (p : ℕ) → p < processes → slice_index_or lists p [] ≡ errands_of (made_by p steps)

-- each process is told what its own steps tell
pub record AreTold (processes : ℕ) (steps : List Made) (told : List (List Told)) : Type 0 where
  pub count : length told ≡ processes
  pub each : (p : ℕ) → p < processes → slice_index_or told p [] ≡ told_to p steps

-- in one order, the steps that were made are a run of the plan with these rows; each process is told its own, and that is
-- what the run tells it
pub record IsLived (plan : Planned) (cast : List (List Content)) (rows : List Event) (told : List (List Told)) : Type 0 where
  pub steps : List Made
  pub run : IsRun plan cast (map move_of steps) rows
  pub tells : AreTold (length plan.names) steps told
  pub as_in_run : AreToldAsInRun plan steps told
