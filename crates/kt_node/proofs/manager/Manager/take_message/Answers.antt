use Rattle.std.proofs.Common.{ℤ, refl, subst}
use Rattle.std.specs.Int.{w64}
use Rattle.std.specs.Prelude.{Result, Ok, Err, OnOk}
use Rattle.std.proofs.lemmas.Int.{to_z-of_z}
use Rattle.kt_tables.specs.Calls.{Speaks}
use Rattle.kt_manager.specs.Turns.{taking_message}
use Rattle.kt_manager.specs.Effects.{IsDone}
use Rattle.kt_node.proofs.Guards.{sound_around, core_inside, guards_inside, guarded_on, message_guarded, done_guarded}
use Rattle.kt_node.proofs.manager.Manager.take_message.Goals as goal

on_ok : {X Y : Type 0} (r : Result X Y) (P Q : Type 0) → (P → Q) → OnOk r P → OnOk r Q
on_ok (Ok x) P Q f h = f h
on_ok (Err e) P Q f h = tt

pub returns-clause-done : goal.returns-clause-done
returns-clause-done c = λ y able h speaks.
    let from = c.args.from in
    let label = c.args.label in
    let body = c.args.body in
    let g = guards_inside _ _ y c.self.view_is h in
    let taken = subst (λ (b : ℤ). Speaks ((taking_message y from label b).state.calls) → OnOk c.take_message-taken.result (IsDone c.take_message-taken.new.self c.take_message-taken.new.out (taking_message y from label b))) (to_z-of_z w64 body c.ranges.body)
    (c.take_message-taken.ensures.done y (core_inside _ _ y refl c.self.view_is h)) in
    on_ok c.take_message-taken.result _ _ (λ done. done_guarded _ c.take_message-taken.new.out _ refl done
    (guarded_on _ y _ (record { begun = g.begun; asks = g.asks; answered = g.answered }) (message_guarded y from label body))) (taken speaks)

pub invariant_of-self : goal.invariant_of-self
invariant_of-self c = sound_around c.take_message-taken.new.self c.self.inside.begun c.self.inside.asks c.self.inside.answered c.sound.ensures.few c.sound.ensures.sound c.self.invariant.begun
