use Rattle.std.proofs.Common.{◌++◌, take, rules}
use Rattle.std.specs.List.{flat_map}
use Rattle.kt_node.specs.NodeHistories.{call_of_row}
use Rattle.kt_node.proofs.Reaching.{tells_row}
use Rattle.kt_node.proofs.reach.Reaches.tell_all.Goals as goal

pub loop-row-preserved : goal.loop-row-preserved
loop-row-preserved c = λ calls h.
    tells_row c.tell.new.self calls c.args.rows.now c.loop-row.row-index c.row-item.result (search rules) c.row-item.is
    (c.tell.ensures (calls ++ flat_map call_of_row (take c.loop-row.row-index c.args.rows.now)) (c.loop-row.invariant calls h))
