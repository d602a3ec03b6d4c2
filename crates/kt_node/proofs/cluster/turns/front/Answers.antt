use Rattle.std.proofs.Common.{◌∙◌, arith, rules, sym}
use Rattle.kt_node.proofs.OnWay.{passed}
use Rattle.kt_node.proofs.cluster.turns.front.Goals as goal

pub loop-place-preserved : goal.loop-place-preserved
loop-place-preserved c = passed c.args.on_way.now c.args.from c.args.to c.loop-place.place c.index-on_way-place.result (first_of (omega arith, search rules)) c.index-on_way-place.is (sym c.is_between.ensures ∙ c.if-is_between.false) c.loop-place.invariant
