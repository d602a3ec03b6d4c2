-- What a process can do next, and when all is over.
use Rattle.std.specs.Prelude.{◌≡◌, ◌⊎◌, ℕ, true, false, [], ◌∷◌, ◌++◌, All, List, Option, Some, None, IsSome}
use Rattle.kt_core.specs.declared.faults.StepFault.{StepFault}
use Rattle.kt_core.specs.declared.faults.StepFault.TheVariants as refused
use Rattle.kt_core.specs.Ready.{IsReady}
use Rattle.kt_core.specs.Shown.{Mirrors}
use Rattle.kt_core.specs.Worlds.{World, can_make, step_refusal, IsWorldAtRest, IsNextStepOf}
use Rattle.kt_core.specs.declared.ready.Ready.{Ready}
use Rattle.kt_promises.specs.Looks as run_looks
use Rattle.kt_promises.specs.Progress.{Progress}
use Rattle.kt_promises.specs.Steps.{process_of_step}
use Rattle.kt_plan.specs.declared.steps.Step.{Step}
use Rattle.kt_threads.specs.Faults.{live_of_step}
use Rattle.kt_threads.specs.Errands.{errand_of, is_no_errand}
use Rattle.kt_threads.specs.Histories.{WorldHistory, IsMade, first_fault}
use Rattle.kt_threads.specs.declared.faults.LiveFault.{LiveFault}
use Rattle.kt_threads.specs.declared.state.Made.{Made}

-- the step that a process makes next, which can be made; none where no step of it can be made
abbrev pub IsNext : World → ℕ → Option Step → Type 0
IsNext w p None = (step : Step) → process_of_step step ≡ p → can_make w step ≡ false
IsNext w p (Some step) = IsNextStepOf w p step × (can_make w step ≡ true)

-- a step of which all was looked up: it is not refused, and needs what it needs in each run of the plan that leads here
pub record IsReadyStep (w : World) (next : Ready) : Type 0 where
  pub ready : IsReady w next
  pub look : (first : ℕ) (v : Progress) → Mirrors w.agenda w.system first v → next.look
      ≡ run_looks.look w.agenda.plan v next.step

-- a process can make a step
pub record HasStep (w : World) (p : ℕ) : Type 0 where
  pub step : Step
  pub own : process_of_step step ≡ p
  pub able : can_make w step ≡ true

-- there was a fault, or the world is at rest
abbrev pub IsOver : WorldHistory → Type 0
IsOver state = IsSome state.fault ⊎ IsWorldAtRest state.world

-- a step was refused, or lacked memory, and that is kept where no fault was before
pub record EndsBy (state : WorldHistory) (step : Step) (fault : Option LiveFault) : Type 0 where
  pub why : StepFault
  pub refused : (why ≡ refused.Memory) ⊎ (step_refusal state.world step ≡ Some why)
  pub kept : fault ≡ first_fault state.fault (live_of_step why)

-- a step was made and recorded that asked nothing of its process's object
pub record IsMadeQuietly (old new : WorldHistory) (step : Step) : Type 0 where
  pub made : Made
  pub steps : new.steps ≡ old.steps ++ made ∷ []
  pub is : made.told.step ≡ step
  pub leads : IsMade old.world made new.world
  pub idle : is_no_errand (errand_of made) ≡ true

-- steps were made and recorded that asked nothing of any object
pub record GoesOnQuietly (old new : WorldHistory) : Type 0 where
  pub more : List Made
  pub steps : new.steps ≡ old.steps ++ more
  pub idle : All (λ made. is_no_errand (errand_of made) ≡ true) more
