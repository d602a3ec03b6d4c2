use Rattle.std.proofs.Common.{◌∙◌, length, arith, sym, ap}
use Rattle.kt_manager.specs.Effects.{put_to}
use Rattle.kt_node.proofs.Counts.{one_put, none_put, count_more, count_same, set_size}
use Rattle.kt_node.proofs.node.counted_each.Goals as goal
use Rattle.kt_node.proofs.node.counted_each.Goals.{then-is_some, else-is_some}

pub loop-number-preserved : goal.loop-number-preserved
loop-number-preserved c =
    let n = c.loop-number.number in
    let puts = put_to c.args.parcels.now in
    let was = c.to.ensures ∙ ap puts c.nth-q.ensures in
    elim c.if-is_some.branch [
      | then-is_some w ↦
          (let all = count_more c.loop-number.counts c.if-is_some.counts c.args.before.now puts n w.index.result (w.index.ensures.value ∙ c.nth-q.ensures) (let a = c.loop-number.invariant.size in let b = c.told-before in let d = c.loop-number-test.true in omega (arith, a, b, d)) w.counts-is (one_put c.to.result (puts n) was (sym c.is_some.ensures ∙ w.if-is_some.true)) c.loop-number.invariant.counted c.loop-number.invariant.others in
          record { size = ap length w.counts-is ∙ (set_size c.loop-number.counts w.index.result _ ∙ c.loop-number.invariant.size); counted = all.0; others = all.1 })
      | else-is_some w ↦
          (let all = count_same c.loop-number.counts c.if-is_some.counts c.args.before.now puts n w.counts-is (none_put c.to.result (puts n) was (sym c.is_some.ensures ∙ w.if-is_some.false)) c.loop-number.invariant.counted c.loop-number.invariant.others in
          record { size = ap length w.counts-is ∙ c.loop-number.invariant.size; counted = all.0; others = all.1 })
    ]
