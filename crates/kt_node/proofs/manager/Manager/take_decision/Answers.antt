use Rattle.std.proofs.Common.{◌≡◌, ◌∙◌, true, refl, sym}
use Rattle.kt_manager.specs.Nodes.{nothing}
use Rattle.kt_manager.specs.NodeClosing.{closing}
use Rattle.kt_node.specs.NodeSteps.{heeds}
use Rattle.kt_node.proofs.Guards.{sound_around, core_inside, guards_inside, guarded_on, closing_guarded, done_guarded}
use Rattle.kt_node.proofs.manager.Manager.take_decision.Goals as goal

pub returns : goal.returns
returns c = λ y able h.
    let k = c.args.inst.now in
    let g = guards_inside _ _ y c.self.view_is h in
    let here : heeds y c.args.from k ≡ true = sym (c.heeds.ensures.node y h) ∙ c.if-not-heeds.false in
    rw here (done_guarded _ c.take_decision.new.out (closing k c.args.commit (nothing y)) refl (c.take_decision.ensures.done y (core_inside _ _ y refl c.self.view_is h))
    (guarded_on _ y _ (record { begun = g.begun; asks = g.asks; answered = g.answered }) (closing_guarded y k c.args.commit (nothing y) refl)))

pub invariant_of-self : goal.invariant_of-self
invariant_of-self c = sound_around c.take_decision.new.self c.self.inside.begun c.self.inside.asks c.self.inside.answered c.sound.ensures.few c.sound.ensures.sound c.self.invariant.begun
