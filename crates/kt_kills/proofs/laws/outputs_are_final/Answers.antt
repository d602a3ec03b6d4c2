use Rattle.kt_kills.proofs.Outputs.{permanent_written, permanent_stays}
use Rattle.kt_kills.proofs.laws.outputs_are_final.Goals as goal

pub returns-clause-written : goal.returns-clause-written
returns-clause-written c n first es p right = permanent_written c.permanent_checkpoints.ensures.steps c.permanent_checkpoints.ensures.stays c.permanent_checkpoints.ensures.opens n first es p

pub returns-clause-stays : goal.returns-clause-stays
returns-clause-stays c n first es more p right = permanent_stays c.permanent_checkpoints.ensures.steps c.permanent_checkpoints.ensures.stays c.permanent_checkpoints.ensures.opens n first es more p
