use Rattle.kt_walk.proofs.WalkSteps.{dropped_row}
use Rattle.kt_walk.proofs.control.ControlState.drop_message.Goals as goal

pub returns : goal.returns
returns c = λ rows h unbroken.
    rw (c.count_row.ensures) (dropped_row _ rows c.args.p c.args.from c.args.msg _ h unbroken c.drop_message.ensures.receiver_in_range c.drop_message.ensures.sender_in_range c.drop_message.ensures.value)
