-- How a fault of a run is written.
use Rattle.std.specs.Prelude.{ℕ, ◌+◌, ◌-◌, ◌^◌, min, List, ◌++◌, codes}
use Rattle.std.specs.Fmt.{decimal}
use Rattle.kt_core.specs.FaultTexts.{step_fault_text}
use Rattle.kt_core.specs.declared.faults.StepFault.{StepFault}
use Rattle.kt_core.specs.declared.faults.StepFault.TheVariants as step
use Rattle.kt_run.specs.declared.faults.RunFault.{RunFault}
use Rattle.kt_run.specs.declared.faults.RunFault.TheVariants.{CastSize, CastKind, Object, Journal, Step, Memory}

-- a step that is refused after so many: its number from 1 where it is not enabled, else why
abbrev pub refused_step_text : ℕ → StepFault → List ℕ
refused_step_text done step.NotEnabled = codes "step " ++ decimal (min (done + 1) (2 ^ 64 - 1)) ++ codes " not enabled"
refused_step_text done fault = codes "run: " ++ step_fault_text fault

-- why a run came to no end
abbrev pub run_fault_text : RunFault → List ℕ
run_fault_text CastSize = codes "run: CastSize"
run_fault_text (CastKind p) = codes "run: CastKind"
run_fault_text (Object p) = codes "run: Object"
run_fault_text (Journal p) = codes "run: Journal"
run_fault_text (Step done fault) = refused_step_text done fault
run_fault_text Memory = codes "memory"
