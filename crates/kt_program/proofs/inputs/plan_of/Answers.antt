use Rattle.std.proofs.Common.{List, ℕ, subst}
use Rattle.kt_scenario.specs.Scenario.{IsFirstScenarioFault}
use Rattle.kt_program.proofs.Reading.{fault_of_whole}
use Rattle.kt_program.proofs.inputs.plan_of.Goals as goal

pub returns-clause-fault : goal.returns-clause-fault
returns-clause-fault g c =
    let fault = c.in-Err.fault in
    let first = subst (λ (t : List ℕ). IsFirstScenarioFault t fault) c.as_slice.ensures.value (c.in-Err.ensures.fault c.in_default.not-Memory) in
    (c.in_default.not-Memory, fault_of_whole (g.R.Read.remaining c.args.input.now.source) c.in_ok-text.text.items fault c.in_ok-text.ensures.text first)
