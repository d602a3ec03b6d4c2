use Rattle.std.proofs.Common.{List, ℕ, subst}
use Rattle.kt_scenario.specs.Steps.{IsFirstStepFault}
use Rattle.kt_program.proofs.Reading.{step_fault_of_whole}
use Rattle.kt_program.proofs.inputs.steps_of.Goals as goal

pub returns-clause-fault : goal.returns-clause-fault
returns-clause-fault g c =
    let names = c.args.plan.now.names in
    let fault = c.in-Err.fault in
    let first = subst (λ (t : List ℕ). IsFirstStepFault names t fault) c.as_slice.ensures.value (c.in-Err.ensures.fault c.in_default.not-Memory) in
    (c.in_default.not-Memory, step_fault_of_whole (g.R.Read.remaining c.args.input.now.source) names c.in_ok-text.text.items fault c.in_ok-text.ensures.text first)
