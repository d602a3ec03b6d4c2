use Rattle.kt_node.proofs.NodeCheckpoints.{checkpoints_opening, checkpoints_after, permanent_after}
use Rattle.kt_node.proofs.laws.permanent_checkpoints.Goals as goal

pub returns-clause-opens : goal.returns-clause-opens
returns-clause-opens c = checkpoints_opening

pub returns-clause-steps : goal.returns-clause-steps
returns-clause-steps c = checkpoints_after

pub returns-clause-stays : goal.returns-clause-stays
returns-clause-stays c = permanent_after
