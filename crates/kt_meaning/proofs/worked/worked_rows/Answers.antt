use Rattle.kt_meaning.proofs.WorkedInstances.{two_least, needless_not_least, alone_not_consistent, rollback_least, needless_rollback_not_least, rollback_alone_not_consistent}
use Rattle.kt_meaning.proofs.worked.worked_rows.Goals as goal

pub returns-clause-least : goal.returns-clause-least
returns-clause-least c = two_least

pub returns-clause-needless : goal.returns-clause-needless
returns-clause-needless c = needless_not_least

pub returns-clause-initiator_alone : goal.returns-clause-initiator_alone
returns-clause-initiator_alone c = alone_not_consistent

pub returns-clause-least_rollback : goal.returns-clause-least_rollback
returns-clause-least_rollback c = rollback_least

pub returns-clause-needless_rollback : goal.returns-clause-needless_rollback
returns-clause-needless_rollback c = needless_rollback_not_least

pub returns-clause-rollback_alone : goal.returns-clause-rollback_alone
returns-clause-rollback_alone c = rollback_alone_not_consistent
