use Rattle.std.proofs.Common.{◌∙◌, sym, rules}
use Rattle.kt_node.proofs.Meets.{held_done}
use Rattle.kt_node.proofs.node.Node.redeliver.Goals as goal

pub returns-clause-done : goal.returns-clause-done
returns-clause-done c = λ y h. held_done c.args.self.now y c.args.from _ c.take_held.result h (search rules) (sym c.is_stale_held.ensures ∙ c.if-is_stale_held.false)
    (c.take_held.ensures.refused y h.manager) (c.take_held.ensures.done y h.manager)
