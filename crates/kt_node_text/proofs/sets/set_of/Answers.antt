use Rattle.std.proofs.Common.{arith}
use Rattle.kt_node_text.proofs.Bits.{below_none, below_all}
use Rattle.kt_node_text.proofs.sets.set_of.Goals as goal

pub loop-number-init : goal.loop-number-init
loop-number-init c = below_none _ _ c.empty-set.ensures

pub returns : goal.returns
returns c =
    c.same_members.ensures _ _ (below_all c.args.bits c.loop-number.set c.loop-number.number c.loop-number.invariant (omega arith)
    (λ q e. c.members_in_range.ensures c.args.bits q (omega arith) e))
