use Rattle.std.proofs.Common.{◌≡◌, ◌∙◌, ℤ, true, refl, sym, ap, subst}
use Rattle.std.specs.Int.{w64}
use Rattle.std.proofs.lemmas.Int.{to_z-of_z}
use Rattle.kt_tables.specs.Calls.{Speaks}
use Rattle.std.specs.Prelude.{is_some}
use Rattle.kt_manager.specs.Turns.{told_to_send}
use Rattle.kt_manager.specs.Effects.{IsDone}
use Rattle.kt_node.specs.Inputs.{Send}
use Rattle.kt_node.specs.NodeSteps.{is_step}
use Rattle.kt_node.specs.Managers.{ManagerState, ShowsNode}
use Rattle.kt_node.proofs.Guards.{sound_around, core_inside, guards_inside, guarded_on, sent_guarded, done_guarded, done_sent, speaks_sent, may_send, none_there}
use Rattle.kt_node.proofs.manager.Manager.send.Goals as goal

pub returns-clause-done : goal.returns-clause-done
returns-clause-done c = λ y h speaks.
    let to = c.args.to in
    let body = c.args.body in
    let g = guards_inside _ _ y c.self.view_is h in
    let i = core_inside _ _ y refl c.self.view_is h in
    let free = none_there y.inst (ap is_some (sym (c.in_inst.ensures ∙ i.inst)) ∙ (sym c.is_some.ensures ∙ c.if-is_some.false)) in
    let step : is_step y (Send to body) ≡ true = may_send _ y to body c.self.invariant.me (subst (λ (w : ManagerState). ShowsNode w y) (sym c.self.view_is) h) (c.in_ok-meet.ensures.ok y h) free in
    let sent = subst (λ (b : ℤ). Speaks ((told_to_send y to b).state.calls) → IsDone c.send.new.self c.send.new.out (told_to_send y to b)) (to_z-of_z w64 body c.ranges.body) (c.send.ensures.done y i) in
    done_sent _ c.send.new.out y to body step
    (done_guarded _ c.send.new.out _ refl (sent (speaks_sent y to body step speaks))
    (guarded_on _ y _ (record { begun = g.begun; asks = g.asks; answered = g.answered }) (sent_guarded y to body)))

pub invariant_of-self : goal.invariant_of-self
invariant_of-self c = sound_around c.send.new.self c.self.inside.begun c.self.inside.asks c.self.inside.answered c.sound.ensures.few c.sound.ensures.sound c.self.invariant.begun
