use Rattle.std.proofs.Common.{◌∙◌, ◌+◌, ℕ, Bool, refl, ap, subst}
use Rattle.std.specs.Prelude.{if◌then◌else◌, Some}
use Rattle.kt_meaning.specs.Past.{is_rollback_kind}
use Rattle.kt_node.specs.NodeSteps.{next_name}
use Rattle.kt_node.specs.Begins.{begun_guards}
use Rattle.kt_node.specs.Managers.{HasGuards}
use Rattle.kt_node.proofs.Guards.{core_inside, guards_inside, guarded_on, begin_guarded, done_core, done_named, sized, around}
use Rattle.kt_node.proofs.manager.Manager.begin.Goals as goal

pub returns-clause-done : goal.returns-clause-done
returns-clause-done c = λ y h.
    let i = core_inside _ _ y refl c.self.view_is h in
    let g = guards_inside _ _ y c.self.view_is h in
    let roll = is_rollback_kind (Some c.args.kind) in
    let new = c.note_begun.new.self in
    let noted = c.note_begun.ensures in
    let named = done_named c.begin-begun.new.self c.begin-begun.new.out _ (next_name y) y roll c.args.able (c.in_ok-begun.ensures.done y i)
    (λ j. record { initiator = (c.me.ensures.me ∙ i.holds.me) j; count = (c.in-Some.ensures.value ∙ ap (λ (n : ℕ). n + 1) g.begun) j }) in
    let guards = subst (λ (t : Bool). HasGuards new (if t then begun_guards y else y)) (c.begins-begins.ensures y h) (noted.guards y (record { begun = g.begun; asks = g.asks; answered = g.answered })) in
    done_core new c.begin-begun.new.self c.begin-begun.new.out _ noted.core (sized new (around c.begin-begun.new.self c.self.inside.begun c.self.inside.asks c.self.inside.answered) noted.core noted.size refl) named
    (guarded_on new _ _ guards (begin_guarded (next_name y) y.inst y roll c.args.able))
