use Rattle.kt_scenario.proofs.Meanings.{one_plan, no_plan, limits, one_fault}
use Rattle.kt_scenario.proofs.laws.scenarios_mean_one_plan.Goals as goal

pub returns-clause-one_plan : goal.returns-clause-one_plan
returns-clause-one_plan c = one_plan

pub returns-clause-no_plan : goal.returns-clause-no_plan
returns-clause-no_plan c = no_plan

pub returns-clause-limits : goal.returns-clause-limits
returns-clause-limits c = limits

pub returns-clause-one_fault : goal.returns-clause-one_fault
returns-clause-one_fault c = one_fault
