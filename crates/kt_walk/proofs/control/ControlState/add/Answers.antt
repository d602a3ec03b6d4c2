use Rattle.kt_walk.proofs.WalkSteps.{unwilling_row, refused_row}
use Rattle.kt_walk.proofs.control.ControlState.add.Goals as goal

pub returns-in-Unwilling-clause-fed : goal.returns-in-Unwilling-clause-fed
returns-in-Unwilling-clause-fed c = λ rows h unbroken. rw (c.count_row.ensures, c.in-Unwilling.is) (unwilling_row _ rows _ _ _ h (rw c.in-Unwilling.is at unbroken))

pub returns-in-Refused-clause-fed : goal.returns-in-Refused-clause-fed
returns-in-Refused-clause-fed c = λ rows h unbroken. rw (c.count_row-in-Refused.ensures, c.in-Refused.is) (refused_row _ rows _ _ _ h (rw c.in-Refused.is at unbroken))
