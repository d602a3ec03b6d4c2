use Rattle.kt_log_text.proofs.TextFacts.{one_log, no_log}
use Rattle.kt_log_text.proofs.FaultFacts.{one_fault}
use Rattle.kt_log_text.proofs.laws.faults_are_real.Goals as goal

pub returns-clause-one_log : goal.returns-clause-one_log
returns-clause-one_log c = one_log

pub returns-clause-no_log : goal.returns-clause-no_log
returns-clause-no_log c = no_log

pub returns-clause-one_fault : goal.returns-clause-one_fault
returns-clause-one_fault c = one_fault
