use Rattle.std.proofs.Common.{refl}
use Rattle.std.proofs.lemmas.Result.{err_from_is_err_and}
use Rattle.kt_merge.proofs.GatherFacts.{gathers_unread, gathers_more, gathered_all, gathered_fault, gathered_memory, at_end}
use Rattle.kt_merge.proofs.reading.rows_in.Goals as goal

pub loop-rows-init : goal.loop-rows-init
loop-rows-init g c = rw c.new-rows.ensures.items (gathers_unread c.args.part.now c.requires.unread)

pub loop-rows-preserved : goal.loop-rows-preserved
loop-rows-preserved g c =
    rw c.in_ok-push_item.ensures
    (gathers_more c.args.part.now.process c.args.part.now.left c.loop-rows.part c.next.new.self c.loop-rows.rows.items c.in-Some.row c.loop-rows.invariant
    (rw c.in-Some.is at c.in_ok-row.ensures.steps))

pub returns-in_err-row-clause-fault : goal.returns-in_err-row-clause-fault
returns-in_err-row-clause-fault g c =
    let p = err_from_is_err_and c.from_residual.result c.from_residual.ensures.1 in
    rw (p.1, p.2)
    (gathered_fault c.args.part.now.process c.args.part.now.left c.loop-rows.part c.next.new.self c.loop-rows.rows.items c.in_err-row.field-0.0 c.loop-rows.invariant c.in_err-row.ensures.steps)

pub returns-in_err-row-clause-met : goal.returns-in_err-row-clause-met
returns-in_err-row-clause-met g c =
    let p = err_from_is_err_and c.from_residual.result c.from_residual.ensures.1 in
    rw (p.1, p.2) (λ other. c.in_err-row.ensures.steps.kept)

pub returns-in_err-push_item-clause-fault : goal.returns-in_err-push_item-clause-fault
returns-in_err-push_item-clause-fault g c =
    let p = err_from_is_err_and c.from_residual-in_err-push_item.result c.from_residual-in_err-push_item.ensures.1 in
    rw (p.1, p.2) (gathered_memory c.args.part.now.process c.args.part.now.left c.loop-rows.part c.loop-rows.rows.items c.loop-rows.invariant)

pub returns-in_err-push_item-clause-met : goal.returns-in_err-push_item-clause-met
returns-in_err-push_item-clause-met g c =
    let p = err_from_is_err_and c.from_residual-in_err-push_item.result c.from_residual-in_err-push_item.ensures.1 in
    rw (p.1, p.2) (λ other. absurd (other refl))

pub returns-clause-found : goal.returns-clause-found
returns-clause-found g c =
    gathered_all c.args.part.now.process c.args.part.now.left c.loop-rows.part c.next.new.self c.loop-rows.rows.items c.loop-rows.invariant (at_end c.in_ok-row.field-0 c.in_default.not-Some c.in_ok-row.ensures.steps)
