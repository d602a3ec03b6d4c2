use Rattle.std.proofs.Common.{true, false, arith, sym, ap, ◌∙◌}
use Rattle.kt_fifo.specs.Counts.{count_first}
use Rattle.kt_system.specs.Reads.{can_take}
use Rattle.kt_core.specs.Worlds.{World}
use Rattle.kt_core.proofs.Counted.{steps_counted}
use Rattle.kt_core.proofs.world.World.count_of.Goals as goal

pub returns-then-can_do-clause-count : goal.returns-then-can_do-clause-count
returns-then-can_do-clause-count c =
    let takes = c.take_count-takes.ensures.count ∙ ap (λ (v : World). count_first (can_take v.system c.args.p) v.system.size) c.self.view_is in
    let all = steps_counted c.args.self.now c.args.p true c.requires (sym c.can_do.ensures ∙ c.if-can_do.true) in
    omega (arith, takes, all)

pub returns-else-can_do-clause-count : goal.returns-else-can_do-clause-count
returns-else-can_do-clause-count c =
    let takes = c.take_count-takes.ensures.count ∙ ap (λ (v : World). count_first (can_take v.system c.args.p) v.system.size) c.self.view_is in
    let all = steps_counted c.args.self.now c.args.p false c.requires (sym c.can_do.ensures ∙ c.if-can_do.false) in
    omega (arith, takes, all)
