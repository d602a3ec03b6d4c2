use Rattle.kt_kills.proofs.Due.{restored_step, all_due}
use Rattle.kt_kills.proofs.laws.objects_are_due.Goals as goal

pub returns-clause-due : goal.returns-clause-due
returns-clause-due c n first es p told = (all_due c.calls_of_nodes.ensures.calls c.looks_of_nodes.ensures.keeps n first es told).memory p

pub returns-clause-restored : goal.returns-clause-restored
returns-clause-restored c y x o d able r = restored_step c.calls_of_nodes.ensures.calls c.looks_of_nodes.ensures.keeps y x o d able r
