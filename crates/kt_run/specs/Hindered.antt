-- Runs by given steps that end at one which is not enabled.
use Rattle.std.specs.Prelude.{◌≡◌, ℕ, Option, Some, List}
use Rattle.kt_object.specs.Holdings.{Content}
use Rattle.kt_plan.specs.Limits.{Planned}
use Rattle.kt_plan.specs.declared.steps.Step.{Step}
use Rattle.kt_promises.specs.Hindrances.{hindrance}
use Rattle.kt_promises.specs.declared.hindrances.Hindrance.{Hindrance}
use Rattle.kt_core.specs.Worlds.{World}
use Rattle.kt_core.specs.declared.faults.StepFault.TheVariants.{NotEnabled}
use Rattle.kt_run.specs.declared.faults.RunFault.{RunFault}
use Rattle.kt_run.specs.declared.faults.RunFault.TheVariants as run
use Rattle.kt_run.specs.Refused.{IsGivenNext}

-- a run by the first so many of these steps leads to where just this stands in the way of the next one of them
pub record IsHindered (plan : Planned) (cast : List (List Content)) (steps : List Step) (done : ℕ) (why : Hindrance) : Type 0 where
  pub world : World
  pub step : Step
  pub next : IsGivenNext plan cast steps done world step
  pub hindered : hindrance plan next.run.now step ≡ Some why

-- where a run ends at a step that is not enabled, it is one of those given, and what stands in its way is told
abbrev pub TellsHindrance : Planned → List (List Content) → List Step → RunFault → Option Hindrance → Type 0
TellsHindrance plan cast steps fault told =
    (done : ℕ) → fault ≡ run.Step done NotEnabled → (why : Hindrance) × (told ≡ Some why) × IsHindered plan cast steps done why

-- nothing is told to stand in the way where a run ends otherwise
abbrev pub TellsNoOther : RunFault → Option Hindrance → Type 0
TellsNoOther fault told = (why : Hindrance) → told ≡ Some why → (done : ℕ) × (fault ≡ run.Step done NotEnabled)
