-- Which objects a run begins with, and which faults of it come before anything is saved.
use Rattle.std.specs.Prelude.{◌<◌, ℕ, List, Bool, true, false, Option, Some, None, length}
use Rattle.kt_object.specs.Casts.{HasSizes, HasKind}
use Rattle.kt_core.specs.declared.faults.StepFault.{StepFault}
use Rattle.kt_core.specs.declared.faults.StepFault.TheVariants as step
use Rattle.kt_object.specs.declared.held_faults.ActFault.{ActFault}
use Rattle.kt_object.specs.declared.held_faults.ActFault.TheVariants as act
use Rattle.kt_object.specs.declared.held_faults.CastFault.{CastFault}
use Rattle.kt_object.specs.declared.held_faults.CastFault.TheVariants as cast
use Rattle.kt_plan.specs.Limits.{Planned}
use Rattle.kt_run.specs.declared.faults.RunFault.{RunFault}
use Rattle.kt_run.specs.declared.faults.RunFault.TheVariants.{CastSize, CastKind, Object, Journal, Step, Memory}

-- the kinds of the objects that are given, by process, are those that a plan asks for
pub record IsCast (plan : Planned) (given : List (List ℕ)) : Type 0 where
  pub sizes : HasSizes plan.kinds plan.commands given
  pub kinds : (p : ℕ) → p < length plan.kinds → HasKind plan.kinds given p

-- what is wrong with the objects that are given
abbrev pub is_of_cast : RunFault → Bool
is_of_cast CastSize = true
is_of_cast (CastKind p) = true
is_of_cast (Object p) = false
is_of_cast (Journal p) = false
is_of_cast (Step done fault) = false
is_of_cast Memory = false

-- p is the least process with an object of another kind
pub record HasOtherKind (plan : Planned) (given : List (List ℕ)) (p : ℕ) : Type 0 where
  pub sizes : HasSizes plan.kinds plan.commands given
  pub there : p < length plan.kinds
  pub other : ¬ HasKind plan.kinds given p
  pub least : (q : ℕ) → q < p → HasKind plan.kinds given q

-- a fault, and the objects that are given: any other fault comes once they are found right
abbrev pub Answers : Planned → List (List ℕ) → RunFault → Type 0
Answers plan given CastSize = ¬ HasSizes plan.kinds plan.commands given
Answers plan given (CastKind p) = HasOtherKind plan given p
Answers plan given (Object p) = IsCast plan given
Answers plan given (Journal p) = IsCast plan given
Answers plan given (Step done fault) = IsCast plan given
Answers plan given Memory = IsCast plan given

-- the fault of a run that a fault of the objects is
abbrev pub of_cast : CastFault → RunFault
of_cast cast.Size = CastSize
of_cast (cast.Kind p) = CastKind p
of_cast (cast.Object p) = Object p
of_cast cast.Memory = Memory

-- the fault of a run that a fault of a step is, after so many steps
abbrev pub of_step : ℕ → StepFault → RunFault
of_step done step.NotEnabled = Step done step.NotEnabled
of_step done step.LogFull = Step done step.LogFull
of_step done step.LabelsSpent = Step done step.LabelsSpent
of_step done step.Memory = Memory

-- the fault of a run that a process's act is which can't be done
abbrev pub of_act : ℕ → ActFault → RunFault
of_act p act.Unfit = Object p
of_act p act.Form = Object p
of_act p act.Memory = Memory

-- the process that a fault names which comes once all objects are saved at first
abbrev pub stopped_at : RunFault → Option ℕ
stopped_at CastSize = None
stopped_at (CastKind p) = None
stopped_at (Object p) = Some p
stopped_at (Journal p) = Some p
stopped_at (Step done fault) = None
stopped_at Memory = None
