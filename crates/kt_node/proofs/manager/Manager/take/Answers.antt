use Rattle.std.proofs.Common.{◌≡◌, ◌∙◌, ℤ, true, false, sym, subst, rules}
use Rattle.std.specs.Int.{w64}
use Rattle.std.proofs.lemmas.Int.{to_z-of_z}
use Rattle.kt_manager.specs.declared.parcels.NodeParcel.TheVariants as put
use Rattle.kt_tables.specs.Calls.{Speaks}
use Rattle.kt_manager.specs.declared.parcels.NodeParcel.{NodeParcel}
use Rattle.kt_node.specs.NodeSteps.{taking}
use Rattle.kt_node.specs.Effects.{IsDone}
use Rattle.kt_node.specs.Links.{IsSpoken}
use Rattle.kt_node.proofs.manager.Manager.take.Goals as goal
use Rattle.kt_node.proofs.manager.Manager.take.Goals.{else-not-is_in_rollback-via-then-not-is_in_rollback+else-holds, else-not-is_in_rollback-via-else-not-is_in_rollback}

pub take_message-requires-clause-first : goal.take_message-requires-clause-first
take_message-requires-clause-first c = λ free. elim c.else-not-is_in_rollback.branch [
  | else-not-is_in_rollback-via-then-not-is_in_rollback+else-holds w ↦ sym w.holds.ensures.state ∙ w.if-holds.false
  | else-not-is_in_rollback-via-else-not-is_in_rollback w ↦ (let e : true ≡ false = sym w.if-not-is_in_rollback.false ∙ (c.is_in_rollback.ensures.state ∙ free) in absurd (cc (e)))
]

pub returns-in_ok-take_message-in-App-clause-done : goal.returns-in_ok-take_message-in-App-clause-done
returns-in_ok-take_message-in-App-clause-done c = λ y h speaks.
    let told = c.take_message.new.out in
    subst (λ (x : NodeParcel). IsSpoken y c.args.from c.args.able x → IsDone c.take_message.new.self told (taking y c.args.from c.args.able x)) (sym c.in-App.is)
    (subst (λ (b : ℤ). Speaks ((taking y c.args.from c.args.able (put.App c.in-App.label b)).state.calls) → IsDone c.take_message.new.self told (taking y c.args.from c.args.able (put.App c.in-App.label b))) (to_z-of_z w64 c.in-App.body (search rules))
    (c.in_ok-take_message-in-App.ensures.done y c.args.able h)) speaks

pub returns-in-Reply-clause-done : goal.returns-in-Reply-clause-done
returns-in-Reply-clause-done c = λ y h speaks.
    subst (λ (x : NodeParcel). IsDone c.take_reply.new.self c.take_reply.new.out (taking y c.args.from c.args.able x)) (sym c.in-Reply.is)
    (c.take_reply.ensures y c.args.able h)

pub returns-in-Decide-clause-done : goal.returns-in-Decide-clause-done
returns-in-Decide-clause-done c = λ y h speaks.
    subst (λ (x : NodeParcel). IsDone c.take_decision.new.self c.take_decision.new.out (taking y c.args.from c.args.able x)) (sym c.in-Decide.is)
    (c.take_decision.ensures y c.args.able h)
