use Rattle.kt_merge.proofs.TextFacts.{one_part, no_part, one_first_fault}
use Rattle.kt_merge.proofs.part_laws.part_faults_are_real.Goals as goal

pub returns-clause-one_part : goal.returns-clause-one_part
returns-clause-one_part c = one_part

pub returns-clause-no_part : goal.returns-clause-no_part
returns-clause-no_part c = no_part

pub returns-clause-one_fault : goal.returns-clause-one_fault
returns-clause-one_fault c = one_first_fault
