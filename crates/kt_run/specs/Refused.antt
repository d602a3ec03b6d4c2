-- Runs of a plan that end at a step: it is refused, or what it asks of a process can't be done.
use Rattle.std.specs.Prelude.{◌≡◌, ◌+◌, ◌⊎◌, ℕ, Some, None, List, length, take, slice_get}
use Rattle.kt_object.specs.Holdings.{Content}
use Rattle.kt_plan.specs.Limits.{Planned}
use Rattle.kt_plan.specs.declared.steps.Step.{Step}
use Rattle.kt_promises.specs.Steps.{process_of_step}
use Rattle.kt_promises.specs.Defaults.{default_step}
use Rattle.kt_core.specs.Worlds.{World, step_refusal}
use Rattle.kt_core.specs.declared.faults.StepFault.{StepFault}
use Rattle.kt_run.specs.Runs.{ToldAndHeld, BeginsRun, Goes}

-- a run by the first so many of these steps leads to this world, and this is the next one of them
pub record IsGivenNext (plan : Planned) (cast : List (List Content)) (steps : List Step) (done : ℕ) (world : World) (step : Step) : Type 0 where
  pub at : ToldAndHeld
  pub run : BeginsRun plan cast (take done steps) world at
  pub next : slice_get steps done ≡ Some step

-- a run by so many steps, all of these and then default ones, leads to this world, and this is the next default step
pub record IsDefaultNext (plan : Planned) (cast : List (List Content)) (steps : List Step) (done : ℕ) (world : World) (step : Step) : Type 0 where
  pub at : ToldAndHeld
  pub run : Goes plan cast steps world at
  pub count : length run.given + length run.more ≡ done
  pub next : default_step plan run.now ≡ Some step

-- a run by the first so many of these steps leads to a world that refuses the next one of them
pub record IsGivenRefused (plan : Planned) (cast : List (List Content)) (steps : List Step) (done : ℕ) (fault : StepFault) : Type 0 where
  pub world : World
  pub step : Step
  pub next : IsGivenNext plan cast steps done world step
  pub refused : step_refusal world step ≡ Some fault

-- a run by so many steps, all of these and then default ones, leads to a world that refuses the next default step
pub record IsDefaultRefused (plan : Planned) (cast : List (List Content)) (steps : List Step) (done : ℕ) (fault : StepFault) : Type 0 where
  pub world : World
  pub step : Step
  pub next : IsDefaultNext plan cast steps done world step
  pub refused : step_refusal world step ≡ Some fault

-- one of the two
abbrev pub IsStepRefused : Planned → List (List Content) → List Step → ℕ → StepFault → Type 0
IsStepRefused plan cast steps done fault =
    IsGivenRefused plan cast steps done fault ⊎ IsDefaultRefused plan cast steps done fault

-- a run by some of these steps, in order from the first one, or by all of them and then default ones, leads to a world that
-- does not refuse the next step, which is one of this process
pub record IsStopped (plan : Planned) (cast : List (List Content)) (steps : List Step) (p : ℕ) : Type 0 where
  pub done : ℕ
  pub world : World
  pub step : Step
  pub next : IsGivenNext plan cast steps done world step ⊎ IsDefaultNext plan cast steps done world step
  pub own : process_of_step step ≡ p
  pub made : step_refusal world step ≡ None
