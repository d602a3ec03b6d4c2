-- What the program makes of the texts of a scenario and of steps.
use Rattle.std.specs.Prelude.{◌≡◌, ◌≢◌, ◌⊎◌, ◌<◌, ◌++◌, ℕ, List, [], Some, None, length, IfSome}
use Rattle.kt_plan.specs.declared.steps.Step.{Step}
use Rattle.kt_plan.specs.Limits.{Planned}
use Rattle.kt_scenario.specs.Scenario.{IsScenario, IsFirstScenarioFault}
use Rattle.kt_scenario.specs.Steps.{AreSteps, IsFirstStepFault}
use Rattle.kt_scenario.specs.declared.fault.ScenarioFault.TheVariants as scenario
use Rattle.kt_scenario.specs.declared.fault.StepsFault.TheVariants as steps
use Rattle.kt_program.specs.declared.fault.AppFault.TheVariants as app
use Rattle.kt_program.specs.declared.fault.ProgramFault.{ProgramFault}
use Rattle.kt_program.specs.declared.fault.ProgramFault.TheVariants as program
use Rattle.kt_program.specs.Names.{Name}
use Rattle.kt_program.specs.Stored.{BytesTold}

-- a text is a whole one, or a part of it from its beginning that has more than so many bytes
abbrev pub IsWholeOrLong : ℕ → List ℕ → List ℕ → Type 0
IsWholeOrLong most whole text = (text ≡ whole) ⊎ ((most < length text) × (rest : List ℕ) × (whole ≡ text ++ rest))

-- the text that is read of what a reader tells
abbrev pub IsRead : ℕ → BytesTold → List ℕ → Type 0
IsRead most told text = IfSome told (λ whole. IsWholeOrLong most whole text)

-- some file has this text, as far as files tell what they have
abbrev pub IsTextOfFile : {F : Type 0} → (F → BytesTold) → List ℕ → Type 0
IsTextOfFile {F} told text = (file : F) × IfSome (told file) (λ whole. whole ≡ text)

-- the bytes say this plan
abbrev pub IsScenarioOf : BytesTold → Planned → Type 0
IsScenarioOf told plan = IfSome told (λ text. IsScenario text plan)

-- the bytes say these steps of processes with these names
abbrev pub AreStepsOf : BytesTold → List (List ℕ) → List Step → Type 0
AreStepsOf told names list = IfSome told (λ text. AreSteps names text list)

-- there is a file that says this plan, as far as files tell what they have
pub record IsPlanOfFile {F : Type 0} (told : F → BytesTold) (plan : Planned) : Type 0 where
  pub file : F
  pub says : IsScenarioOf (told file) plan

-- there is a file that says these steps
pub record AreStepsOfFile {F : Type 0} (told : F → BytesTold) (names : List (List ℕ)) (list : List Step) : Type 0 where
  pub file : F
  pub say : AreStepsOf (told file) names list

-- the steps that are given: those that a file says, where one is named, and else none
abbrev pub AreGiven : {F : Type 0} → (F → BytesTold) → Name → List (List ℕ) → List Step → Type 0
AreGiven told None names list = list ≡ []
AreGiven told (Some name) names list = AreStepsOfFile told names list

-- a fault of reading a text, or want of memory for it
abbrev pub IsOfReading : ProgramFault → Type 0
IsOfReading fault = (fault ≡ program.Read) ⊎ (fault ≡ program.App app.Memory)

-- why there is no plan: the first fault of the text; nothing is said of when a reader or memory fails
abbrev pub IsScenarioRefusal : BytesTold → ProgramFault → Type 0
IsScenarioRefusal told (program.Scenario fault) = (fault ≢ scenario.Memory) × IfSome told (λ text. IsFirstScenarioFault text fault)
IsScenarioRefusal told program.Read = Unit {0}
IsScenarioRefusal told (program.App fault) = fault ≡ app.Memory
IsScenarioRefusal told program.Line = ⊥
IsScenarioRefusal told program.SameFile = ⊥
IsScenarioRefusal told (program.Steps fault) = ⊥

-- why there are no steps
abbrev pub IsStepsRefusal : BytesTold → List (List ℕ) → ProgramFault → Type 0
IsStepsRefusal told names (program.Steps fault) = (fault ≢ steps.Memory) × IfSome told (λ text. IsFirstStepFault names text fault)
IsStepsRefusal told names program.Read = Unit {0}
IsStepsRefusal told names (program.App fault) = fault ≡ app.Memory
IsStepsRefusal told names program.Line = ⊥
IsStepsRefusal told names program.SameFile = ⊥
IsStepsRefusal told names (program.Scenario fault) = ⊥
