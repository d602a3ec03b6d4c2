use Rattle.std.proofs.Common.{◌∙◌, ℤ, sym, subst, ap}
use Rattle.std.specs.Int.{w64}
use Rattle.std.proofs.lemmas.Int.{to_z-of_z}
use Rattle.kt_tables.specs.Calls.{Speaks}
use Rattle.kt_node.specs.Inputs.{Send}
use Rattle.kt_node.specs.NodeSteps.{node_after}
use Rattle.kt_node.specs.Effects.{IsDone}
use Rattle.kt_node.specs.Links.{NodeLinks}
use Rattle.kt_node.specs.Managers.{ManagerState, ShowsNode}
use Rattle.kt_node.proofs.Counts.{step_of, inside_reaches}
use Rattle.kt_node.proofs.Speaking.{send_speaks}
use Rattle.kt_node.proofs.node.Node.send.Goals as goal

pub returns-clause-done : goal.returns-clause-done
returns-clause-done c = λ y h.
    let i = subst (λ (w : NodeLinks). ShowsNode w.manager y) (sym c.self.view_is) h in
    let e = c.send.new.out in
    let done = subst (λ (b : ℤ). Speaks ((node_after y (Send c.args.to b)).state.calls) → IsDone c.send.new.self e (node_after y (Send c.args.to b))) (to_z-of_z w64 c.args.body c.ranges.body) (c.in_ok-send.ensures.done y i) in
    let speaks = send_speaks y c.args.to c.args.body i.process.stands.speaks (c.speaks.ensures y c.args.to h) (c.in_ok-send.ensures.step y i) in
    let put = c.put.ensures in
    step_of c.args.self.now c.put.new.self c.send.new.self c.self.inside.sent 0 c.in_ok-clock.clock y (Send c.args.to c.args.body) e c.put.new.out (done speaks) c.in_ok-clock.ensures.ok put.manager put.clock (ap (λ (w : NodeLinks). w.sent) c.self.view_is) put.sent put.effects (put.from ∙ ap (λ (w : ManagerState). w.me) (sym put.manager)) put.told put.numbers
    (λ r. put.reaches y.calls (inside_reaches c.args.self.now c.self.inside.reaches y.calls (ap (λ (w : NodeLinks). w.reaches) c.self.view_is) r))
