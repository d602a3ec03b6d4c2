use Rattle.std.proofs.Common.{◌≡◌, ◌∙◌, true, refl, sym}
use Rattle.kt_manager.specs.Nodes.{nothing}
use Rattle.kt_manager.specs.NodeClosing.{settling}
use Rattle.kt_manager.specs.NodeSteps.{counting}
use Rattle.kt_node.specs.NodeSteps.{awaits}
use Rattle.kt_node.proofs.Guards.{sound_around, core_inside, guards_inside, guards_counted, guarded_on, settled, done_guarded}
use Rattle.kt_node.proofs.manager.Manager.take_reply.Goals as goal

pub returns : goal.returns
returns c = λ y able h.
    let from = c.args.from in
    let k = c.args.inst.now in
    let w = c.args.willing in
    let g = guards_inside _ _ y c.self.view_is h in
    let more = guards_counted _ c.with-self-inside.result y from w c.with-self-inside.ensures.added c.with-self-inside.ensures.others g in
    let here : awaits y from k ≡ true = sym (c.awaits.ensures.node y h) ∙ c.if-not-awaits.false in
    rw here (done_guarded _ c.take_reply.new.out (settling k (nothing (counting y from w))) refl (c.take_reply.ensures.done y from (core_inside _ _ y refl c.self.view_is h))
    (guarded_on _ (counting y from w) _ (record { begun = more.begun; asks = more.asks; answered = more.answered }) (settled k (nothing (counting y from w)))))

pub invariant_of-self : goal.invariant_of-self
invariant_of-self c = sound_around c.take_reply.new.self c.self.inside.begun c.self.inside.asks c.with-self-inside.result c.sound.ensures.few c.sound.ensures.sound c.self.invariant.begun
