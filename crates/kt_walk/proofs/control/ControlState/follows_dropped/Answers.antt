use Rattle.std.proofs.Common.{◌∙◌}
use Rattle.kt_walk.proofs.WalkRows.{after_dropped}
use Rattle.kt_walk.proofs.control.ControlState.follows_dropped.Goals as goal

pub returns : goal.returns
returns c = λ rows h.
    c.is_after.ensures ∙ (rw c.last.ensures.value (after_dropped _ rows c.args.p c.args.from c.args.msg h c.last.ensures.receiver_in_range c.last.ensures.sender_in_range))
