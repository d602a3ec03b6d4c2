use Rattle.std.proofs.Common.{arith, ap}
use Rattle.kt_core.specs.Worlds.{World}
use Rattle.kt_core.proofs.Counted.{counted_none, counted_more, counted_all, counted_to_end}
use Rattle.kt_core.proofs.world.World.count_of_movers.Goals as goal

pub loop-number-init : goal.loop-number-init
loop-number-init c = (counted_none c.args.self.now c.args.movers c.requires, omega arith)

pub loop-number-preserved : goal.loop-number-preserved
loop-number-preserved c =
    let inv = c.loop-number.invariant in
    let most = inv.1 in
    let few = c.count_of-count.ensures.few in (
      counted_more c.args.self.now c.loop-number.left c.loop-number.count c.loop-number._number inv.0 c.without-left.result c.in-Some.p c.count_of-count.result c.in-Some.ensures.member c.in-Some.ensures.least c.without-left.ensures.removed c.without-left.ensures.others c.count_of-count.ensures.count,
      omega (arith, most, few),
    )

pub returns-in_default : goal.returns-in_default
returns-in_default c = let inv = c.loop-number.invariant in counted_all c.args.self.now c.loop-number.left c.loop-number.count c.loop-number._number inv.0 c.in_default.ensures.none

pub returns : goal.returns
returns c =
    let inv = c.loop-number.invariant in
    let all = c.processes-number-end.ensures.processes in
    let over = c.loop-number-test.false in
    let size = ap (λ (w : World). w.system.size) c.self.view_is in
    counted_to_end c.args.self.now c.loop-number.left c.loop-number.count c.loop-number._number inv.0 (omega (arith, all, over, size))
