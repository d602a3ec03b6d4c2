use Rattle.kt_chain.proofs.TextFacts.{one_text, no_list}
use Rattle.kt_chain.proofs.FaultFacts.{one_fault}
use Rattle.kt_chain.proofs.laws.faults_are_real.Goals as goal

pub returns-clause-one_list : goal.returns-clause-one_list
returns-clause-one_list c = one_text

pub returns-clause-no_list : goal.returns-clause-no_list
returns-clause-no_list c = no_list

pub returns-clause-one_fault : goal.returns-clause-one_fault
returns-clause-one_fault c = one_fault
