use Rattle.std.proofs.Common.{ℕ, List, ◌++◌, ◌∙◌, sym, subst, ap}
use Rattle.std.specs.Prelude.{slice_index}
use Rattle.kt_node.specs.Inputs.{Comes}
use Rattle.kt_node.specs.declared.reach.Reaches.{Reaches}
use Rattle.kt_node.specs.Effects.{calls_of}
use Rattle.kt_node.specs.Links.{NodeLinks}
use Rattle.kt_node.specs.Managers.{ManagerState, ShowsNode}
use Rattle.kt_node.specs.Reaches.{HasReaches}
use Rattle.kt_node.proofs.Counts.{step_of, inside_reaches}
use Rattle.kt_node.proofs.node.Node.take.Goals as goal

pub returns-clause-done : goal.returns-clause-done
returns-clause-done c = λ y h speaks.
    let i = subst (λ (w : NodeLinks). ShowsNode w.manager y) (sym c.self.view_is) h in
    let put = c.put.ensures in
    let note = c.note.ensures in
    step_of c.args.self.now c.note.new.self c.take.new.self c.self.inside.sent c.args.came c.in_ok-clock.clock y (Comes c.args.from c.args.able c.args.parcel.now) c.take.new.out c.put.new.out
    (c.in_ok-take.ensures.done y i speaks) c.in_ok-clock.ensures.ok (note.manager ∙ put.manager) (note.clock ∙ put.clock) (ap (λ (w : NodeLinks). w.sent) c.self.view_is)
    (λ q b. ap (λ (l : List ℕ). slice_index l q) note.sent ∙ put.sent q b) put.effects (put.from ∙ (ap (λ (w : ManagerState). w.me) (sym put.manager) ∙ ap (λ (w : ManagerState). w.me) (sym note.manager))) put.told (put.numbers ∙ sym note.sent)
    (λ r. subst (λ (x : Reaches). HasReaches x (y.calls ++ calls_of c.take.new.out)) (sym note.reaches)
    (put.reaches y.calls (inside_reaches c.args.self.now c.self.inside.reaches y.calls (ap (λ (w : NodeLinks). w.reaches) c.self.view_is) r)))
