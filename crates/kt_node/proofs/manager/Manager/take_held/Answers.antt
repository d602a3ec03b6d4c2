use Rattle.std.proofs.Common.{◌∙◌, refl, sym}
use Rattle.kt_node.proofs.Guards.{sound_around, core_inside, guards_inside, guarded_on, held_guarded, done_guarded, done_held, speaks_held}
use Rattle.kt_node.proofs.manager.Manager.take_held.Goals as goal

pub returns-clause-done : goal.returns-clause-done
returns-clause-done c = λ y h speaks.
    let from = c.args.from in
    let g = guards_inside _ _ y c.self.view_is h in
    let over = sym (c.is_in_rollback.ensures.node y h) ∙ c.if-is_in_rollback.false in
    done_held _ c.take_held.new.out y from over
    (done_guarded _ c.take_held.new.out _ refl (c.take_held.ensures.done y (core_inside _ _ y refl c.self.view_is h) (speaks_held y from over speaks))
    (guarded_on _ y _ (record { begun = g.begun; asks = g.asks; answered = g.answered }) (held_guarded y from (y.held from))))

pub invariant_of-self : goal.invariant_of-self
invariant_of-self c = sound_around c.take_held.new.self c.self.inside.begun c.self.inside.asks c.self.inside.answered c.sound.ensures.few c.sound.ensures.sound c.self.invariant.begun
