use Rattle.std.proofs.Common.{◌≡◌, ◌∙◌, Bool, refl, ap, arith, rules, subst}
use Rattle.std.specs.Prelude.{◌&&◌, not, is_some, if◌then◌else◌, Some, Option, slice_set}
use Rattle.kt_meaning.specs.Past.{is_rollback_kind}
use Rattle.kt_spacetime.specs.declared.names.InstName.{InstName}
use Rattle.kt_node.specs.NodeSteps.{asking}
use Rattle.kt_node.specs.Begins.{joined_guards}
use Rattle.kt_node.specs.Managers.{HasGuards}
use Rattle.kt_node.proofs.Guards.{around, core_inside, guards_inside, guards_asked, guarded_on, asked_shows, ask_guarded, done_core, sized}
use Rattle.kt_node.proofs.manager.Manager.take_ask.Goals as goal

pub returns-clause-done : goal.returns-clause-done
returns-clause-done c = λ y h.
    let from = c.args.from in
    let k = c.args.ask.now.inst in
    let i = core_inside _ _ y refl c.self.view_is h in
    let g = guards_inside _ _ y c.self.view_is h in
    let new = c.note_joined.new.self in
    let noted = c.note_joined.ensures in
    let z = asking y from k in
    let done = c.in_ok-taken.ensures.done z (asked_shows _ y from k i) in
    let asked = guards_asked _ y from c.index.result k c.index.ensures.value (first_of (omega arith, search rules)) (record { begun = g.begun; asks = g.asks; answered = g.answered }) in
    let was : c.is_some-was_in.result ≡ is_some y.inst = c.is_some-was_in.ensures ∙ ap is_some (c.in_inst.ensures ∙ i.inst) in
    let guards = subst (λ (o : Option InstName). HasGuards new (if not (is_some y.inst) && is_some o then joined_guards z else z)) done.state.inst
    (subst (λ (b : Bool). HasGuards new (if not b && is_some c.take_ask-taken.new.self.inst then joined_guards z else z)) was (noted.guards z asked)) in
    done_core new c.take_ask-taken.new.self c.take_ask-taken.new.out _ noted.core
    (sized new (around c.take_ask-taken.new.self c.self.inside.begun (slice_set c.self.inside.asks c.index.result (Some k)) c.self.inside.answered) noted.core noted.size refl) done
    (guarded_on new _ _ guards (ask_guarded y.inst z from c.args.able k (is_rollback_kind (Some c.args.ask.now.kind)) c.args.ask.now.label))
