-- The faults of a text, by what is wrong in which line.
use Rattle.std.specs.Prelude.{ℕ}
use Rattle.kt_scenario.specs.declared.fault.LineFault.{LineFault}
use Rattle.kt_scenario.specs.declared.fault.LineFault.TheVariants as line
use Rattle.kt_scenario.specs.declared.fault.ScenarioFault.{ScenarioFault}
use Rattle.kt_scenario.specs.declared.fault.ScenarioFault.TheVariants as scenario
use Rattle.kt_scenario.specs.declared.fault.StepLineFault.{StepLineFault}
use Rattle.kt_scenario.specs.declared.fault.StepLineFault.TheVariants as step
use Rattle.kt_scenario.specs.declared.fault.StepsFault.{StepsFault}
use Rattle.kt_scenario.specs.declared.fault.StepsFault.TheVariants as steps

-- the fault of a scenario in whose line of this number something is wrong
abbrev pub fault_at : LineFault → ℕ → ScenarioFault
fault_at line.Command n = scenario.Command n
fault_at line.Words n = scenario.Words n
fault_at line.Name n = scenario.Name n
fault_at line.Twice n = scenario.Twice n
fault_at line.KindWord n = scenario.KindWord n
fault_at line.TooManyObjects n = scenario.TooManyObjects n
fault_at line.Unknown n = scenario.Unknown n
fault_at line.Itself n = scenario.Itself n
fault_at line.Number n = scenario.Number n
fault_at line.TooManyCommands n = scenario.TooManyCommands n
fault_at line.Memory n = scenario.Memory

-- the fault of a text of steps in whose line of this number something is wrong
abbrev pub step_fault_at : StepLineFault → ℕ → StepsFault
step_fault_at step.Command n = steps.Command n
step_fault_at step.Words n = steps.Words n
step_fault_at step.Unknown n = steps.Unknown n
step_fault_at step.Itself n = steps.Itself n
step_fault_at step.TooMany n = steps.TooMany n
step_fault_at step.Memory n = steps.Memory
