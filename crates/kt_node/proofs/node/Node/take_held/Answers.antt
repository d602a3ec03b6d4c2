use Rattle.std.proofs.Common.{◌∙◌, sym, subst, ap}
use Rattle.kt_node.specs.Inputs.{Held}
use Rattle.kt_node.specs.Links.{NodeLinks}
use Rattle.kt_node.specs.Managers.{ManagerState, ShowsNode}
use Rattle.kt_node.proofs.Counts.{step_of, inside_reaches}
use Rattle.kt_node.proofs.node.Node.take_held.Goals as goal

pub returns-clause-done : goal.returns-clause-done
returns-clause-done c = λ y h speaks.
    let i = subst (λ (w : NodeLinks). ShowsNode w.manager y) (sym c.self.view_is) h in
    let put = c.put.ensures in
    step_of c.args.self.now c.put.new.self c.take_held.new.self c.self.inside.sent 0 c.in_ok-clock.clock y (Held c.args.from) c.take_held.new.out c.put.new.out
    (c.in_ok-take_held.ensures.done y i speaks) c.in_ok-clock.ensures.ok put.manager put.clock (ap (λ (w : NodeLinks). w.sent) c.self.view_is) put.sent put.effects (put.from ∙ ap (λ (w : ManagerState). w.me) (sym put.manager)) put.told put.numbers
    (λ r. put.reaches y.calls (inside_reaches c.args.self.now c.self.inside.reaches y.calls (ap (λ (w : NodeLinks). w.reaches) c.self.view_is) r))
