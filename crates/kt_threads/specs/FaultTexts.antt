-- How a fault of a run in threads is written.
use Rattle.std.specs.Prelude.{ℕ, List, ◌++◌, codes}
use Rattle.kt_core.specs.FaultTexts.{step_fault_text}
use Rattle.kt_core.specs.declared.faults.StepFault.{StepFault}
use Rattle.kt_core.specs.declared.faults.StepFault.TheVariants as step
use Rattle.kt_threads.specs.declared.faults.LiveFault.{LiveFault}
use Rattle.kt_threads.specs.declared.faults.LiveFault.TheVariants.{CastSize, CastKind, Object, Journal, Step, Spawn, Differ, Memory}

-- a step that is refused
abbrev pub live_step_text : StepFault → List ℕ
live_step_text step.Memory = codes "memory"
live_step_text fault = codes "run: " ++ step_fault_text fault

-- why processes in threads came to no end
abbrev pub live_fault_text : LiveFault → List ℕ
live_fault_text CastSize = codes "run: CastSize"
live_fault_text (CastKind p) = codes "run: CastKind"
live_fault_text (Object p) = codes "run: Object"
live_fault_text (Journal p) = codes "run: Journal"
live_fault_text (Step fault) = live_step_text fault
live_fault_text Spawn = codes "run: Spawn"
live_fault_text Differ = codes "run: Differ"
live_fault_text Memory = codes "memory"
