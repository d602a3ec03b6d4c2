use Rattle.kt_node.proofs.OwnMarks.{marks_opening, marks_after, own_shown}
use Rattle.kt_node.proofs.laws.own_parts.Goals as goal

pub returns-clause-opens : goal.returns-clause-opens
returns-clause-opens c = marks_opening

pub returns-clause-steps : goal.returns-clause-steps
returns-clause-steps c = marks_after

pub returns-clause-own : goal.returns-clause-own
returns-clause-own c = own_shown
