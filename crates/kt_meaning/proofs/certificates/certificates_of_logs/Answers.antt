use Rattle.kt_meaning.proofs.Certified.{each_of, complete, rising, checkpoint_led, rollback_led}
use Rattle.kt_meaning.proofs.certificates.certificates_of_logs.Goals as goal

pub returns-clause-decided : goal.returns-clause-decided
returns-clause-decided c = each_of

pub returns-clause-complete : goal.returns-clause-complete
returns-clause-complete c = complete

pub returns-clause-rising : goal.returns-clause-rising
returns-clause-rising c = rising

pub returns-clause-checkpoint : goal.returns-clause-checkpoint
returns-clause-checkpoint c = checkpoint_led

pub returns-clause-rollback : goal.returns-clause-rollback
returns-clause-rollback c = rollback_led
