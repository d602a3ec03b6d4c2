use Rattle.std.proofs.Common.{◌∙◌, sym, subst, ap}
use Rattle.std.specs.Prelude.{Some}
use Rattle.kt_meaning.specs.Past.{is_rollback_kind}
use Rattle.kt_node.specs.Inputs.{Begin}
use Rattle.kt_node.specs.Links.{NodeLinks}
use Rattle.kt_node.specs.Managers.{ManagerState, ShowsNode}
use Rattle.kt_node.proofs.Counts.{step_of, inside_reaches}
use Rattle.kt_node.proofs.node.Node.begin.Goals as goal

pub returns-clause-done : goal.returns-clause-done
returns-clause-done c = λ y h.
    let i = subst (λ (w : NodeLinks). ShowsNode w.manager y) (sym c.self.view_is) h in
    let put = c.put.ensures in
    step_of c.args.self.now c.put.new.self c.begin.new.self c.self.inside.sent 0 c.in_ok-clock.clock y (Begin (is_rollback_kind (Some c.args.kind)) c.args.able) c.begin.new.out c.put.new.out
    (c.in_ok-begin.ensures.done y i) c.in_ok-clock.ensures.ok put.manager put.clock (ap (λ (w : NodeLinks). w.sent) c.self.view_is) put.sent put.effects (put.from ∙ ap (λ (w : ManagerState). w.me) (sym put.manager)) put.told put.numbers
    (λ r. put.reaches y.calls (inside_reaches c.args.self.now c.self.inside.reaches y.calls (ap (λ (w : NodeLinks). w.reaches) c.self.view_is) r))
