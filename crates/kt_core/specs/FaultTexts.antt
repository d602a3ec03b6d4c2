-- How a refusal of a step is written.
use Rattle.std.specs.Prelude.{ℕ, List, codes}
use Rattle.kt_core.specs.declared.faults.StepFault.{StepFault}
use Rattle.kt_core.specs.declared.faults.StepFault.TheVariants.{NotEnabled, LogFull, LabelsSpent, Memory}

-- why a step was not made
abbrev pub step_fault_text : StepFault → List ℕ
step_fault_text NotEnabled = codes "NotEnabled"
step_fault_text LogFull = codes "LogFull"
step_fault_text LabelsSpent = codes "LabelsSpent"
step_fault_text Memory = codes "memory"
