-- Exit statuses of faults, and the line of a fault.
use Rattle.std.specs.Prelude.{ℕ, List, [], ◌∷◌, ◌++◌, codes}
use Rattle.kt_log_text.specs.declared.fault.LogFault.{LogFault}
use Rattle.kt_log_text.specs.declared.fault.LogFault.TheVariants as log
use Rattle.kt_chain.specs.declared.fault.CertTextFault.{CertTextFault}
use Rattle.kt_chain.specs.declared.fault.CertTextFault.TheVariants as cert
use Rattle.kt_merge.specs.declared.part_fault.PartFault.{PartFault}
use Rattle.kt_merge.specs.declared.part_fault.PartFault.TheVariants as part
use Rattle.kt_merge.specs.declared.fault.MergeFault.{MergeFault}
use Rattle.kt_merge.specs.declared.fault.MergeFault.TheVariants as merge
use Rattle.kt_core.specs.declared.faults.StepFault.{StepFault}
use Rattle.kt_core.specs.declared.faults.StepFault.TheVariants as step
use Rattle.kt_run.specs.declared.faults.RunFault.{RunFault}
use Rattle.kt_run.specs.declared.faults.RunFault.TheVariants as run
use Rattle.kt_scenario.specs.declared.fault.ScenarioFault.{ScenarioFault}
use Rattle.kt_scenario.specs.declared.fault.ScenarioFault.TheVariants as scenario
use Rattle.kt_scenario.specs.declared.fault.StepsFault.{StepsFault}
use Rattle.kt_scenario.specs.declared.fault.StepsFault.TheVariants as steps
use Rattle.kt_program.specs.declared.fault.AppFault.{AppFault}
use Rattle.kt_program.specs.declared.fault.AppFault.TheVariants as app
use Rattle.kt_program.specs.declared.fault.ProgramFault.{ProgramFault}
use Rattle.kt_program.specs.declared.fault.ProgramFault.TheVariants as program

-- 2 refused input, 3 a read or write fault, 4 want of memory or a run that can't go on
abbrev pub log_status : LogFault → ℕ
log_status log.Read = 3
log_status log.Memory = 4
log_status _ = 2

abbrev pub cert_status : CertTextFault → ℕ
cert_status cert.Read = 3
cert_status cert.Memory = 4
cert_status _ = 2

abbrev pub part_status : PartFault → ℕ
part_status part.Read = 3
part_status part.Memory = 4
part_status _ = 2

abbrev pub merge_status : MergeFault → ℕ
merge_status (merge.Part p fault) = part_status fault
merge_status (merge.Row p number fault) = 2
merge_status merge.Write = 3
merge_status merge.Memory = 4

-- a step that is not enabled is refused input
abbrev pub step_status : StepFault → ℕ
step_status step.NotEnabled = 2
step_status _ = 4

abbrev pub run_status : RunFault → ℕ
run_status (run.Step done fault) = step_status fault
run_status _ = 4

-- the exit status of a fault of a run, of a stored run or of writing; a log without certificates is a no
abbrev pub fault_status : AppFault → ℕ
fault_status (app.Log fault) = log_status fault
fault_status (app.Cert fault) = cert_status fault
fault_status (app.Run fault) = run_status fault
fault_status (app.Live fault) = 4
fault_status (app.Uncertified fault) = 4
fault_status (app.Unfit why) = 1
fault_status app.RecordTooLong = 2
fault_status (app.Picture why) = 2
fault_status (app.Merge fault) = merge_status fault
fault_status app.Write = 3
fault_status app.Memory = 4

abbrev pub scenario_status : ScenarioFault → ℕ
scenario_status scenario.Memory = 4
scenario_status _ = 2

abbrev pub steps_status : StepsFault → ℕ
steps_status steps.Memory = 4
steps_status _ = 2

-- the exit status of a fault of the program
abbrev pub refusal_status : ProgramFault → ℕ
refusal_status program.Line = 2
refusal_status program.SameFile = 2
refusal_status (program.Scenario fault) = scenario_status fault
refusal_status (program.Steps fault) = steps_status fault
refusal_status program.Read = 3
refusal_status (program.App fault) = fault_status fault

-- the program's name, a fault's words and a line feed
abbrev pub fault_line : List ℕ → List ℕ
fault_line text = codes "koo_toueg: " ++ text ++ 10 ∷ []
