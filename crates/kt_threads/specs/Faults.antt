-- Which faults are answered.
use Rattle.std.specs.Prelude.{◌≡◌, ◌⊎◌, ℕ, List, Bool, true, false, Option, Some, None, slice_index_or}
use Rattle.kt_core.specs.declared.faults.StepFault.{StepFault}
use Rattle.kt_core.specs.declared.faults.StepFault.TheVariants as step
use Rattle.kt_object.specs.Casts.{HasSizes}
use Rattle.kt_object.specs.declared.held_faults.ActFault.{ActFault}
use Rattle.kt_object.specs.declared.held_faults.ActFault.TheVariants as act
use Rattle.kt_object.specs.declared.held_faults.CastFault.{CastFault}
use Rattle.kt_object.specs.declared.held_faults.CastFault.TheVariants as cast
use Rattle.kt_plan.specs.Limits.{Planned}
use Rattle.kt_run.specs.Faults.{IsCast, HasOtherKind}
use Rattle.kt_threads.specs.declared.spawning.SpawnFault.{SpawnFault}
use Rattle.kt_threads.specs.declared.spawning.SpawnFault.TheVariants as spawning
use Rattle.kt_threads.specs.declared.faults.LiveFault.{LiveFault}
use Rattle.kt_threads.specs.declared.faults.LiveFault.TheVariants.{CastSize, CastKind, Object, Journal, Step, Spawn, Differ, Memory}

-- what no thread ends by: what is wrong with the objects that are given; and want of memory to note what a step asks, which takes
-- none
abbrev pub is_of_no_thread : LiveFault → Bool
is_of_no_thread CastSize = true
is_of_no_thread (CastKind p) = true
is_of_no_thread (Object p) = false
is_of_no_thread (Journal p) = true
is_of_no_thread (Step fault) = false
is_of_no_thread Spawn = false
is_of_no_thread Differ = false
is_of_no_thread Memory = false

-- a fault, and the objects that are given: any other fault comes once they are found right; `Journal` never comes
abbrev pub AnswersLive : Planned → List (List ℕ) → LiveFault → Type 0
AnswersLive plan given CastSize = ¬ HasSizes plan.kinds plan.commands given
AnswersLive plan given (CastKind p) = HasOtherKind plan given p
AnswersLive plan given (Object p) = IsCast plan given
AnswersLive plan given (Journal p) = ⊥
AnswersLive plan given (Step fault) = IsCast plan given
AnswersLive plan given Spawn = IsCast plan given
AnswersLive plan given Differ = IsCast plan given
AnswersLive plan given Memory = IsCast plan given

-- the fault that a fault of the objects is
abbrev pub live_of_cast : CastFault → LiveFault
live_of_cast cast.Size = CastSize
live_of_cast (cast.Kind p) = CastKind p
live_of_cast (cast.Object p) = Object p
live_of_cast cast.Memory = Memory

-- the fault that a refusal of a step is
abbrev pub live_of_step : StepFault → LiveFault
live_of_step step.NotEnabled = Step step.NotEnabled
live_of_step step.LogFull = Step step.LogFull
live_of_step step.LabelsSpent = Step step.LabelsSpent
live_of_step step.Memory = Memory

-- the fault that an act is which process p could not do
abbrev pub live_of_act : ℕ → ActFault → LiveFault
live_of_act p act.Unfit = Differ
live_of_act p act.Form = Object p
live_of_act p act.Memory = Memory

-- the process that a fault names which comes once all objects are saved at first
abbrev pub live_stopped_at : LiveFault → Option ℕ
live_stopped_at CastSize = None
live_stopped_at (CastKind p) = None
live_stopped_at (Object p) = Some p
live_stopped_at (Journal p) = None
live_stopped_at (Step fault) = None
live_stopped_at Spawn = None
live_stopped_at Differ = None
live_stopped_at Memory = None

-- a fault is one that threads end by, where these are the faults that ended them, by process: it is one that
-- threads end by, and one that names a process has ended that process's thread
abbrev pub IsOfThreads : List (Option LiveFault) → LiveFault → Type 0
IsOfThreads ended fault = (is_of_no_thread fault ≡ false)
    × ((p : ℕ) → live_stopped_at fault ≡ Some p → slice_index_or ended p None ≡ Some fault)

-- what is answered where this fault was the first
abbrev pub AnswersFirst : List (Option LiveFault) → LiveFault → LiveFault → Type 0
AnswersFirst ended first answer = (IsOfThreads ended first × (answer ≡ first))
    ⊎ ((¬ IsOfThreads ended first) × (answer ≡ Differ))

-- the fault that a fault of the threads themselves is
abbrev pub live_of_spawning : SpawnFault → LiveFault
live_of_spawning spawning.Memory = Memory
live_of_spawning spawning.Spawn = Spawn
