use Rattle.kt_scenario.proofs.Meanings.{one_list, no_list, one_step_fault}
use Rattle.kt_scenario.proofs.laws.texts_mean_one_list.Goals as goal

pub returns-clause-one_list : goal.returns-clause-one_list
returns-clause-one_list c = one_list

pub returns-clause-no_list : goal.returns-clause-no_list
returns-clause-no_list c = no_list

pub returns-clause-one_fault : goal.returns-clause-one_fault
returns-clause-one_fault c = one_step_fault
