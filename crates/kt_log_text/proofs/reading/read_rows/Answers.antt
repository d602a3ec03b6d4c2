use Rattle.std.proofs.lemmas.Result.{err_from_is_err_and}
use Rattle.kt_log_text.proofs.GatherFacts.{gathers_none, gathers_more, gathered_all, gathered_to_fault, gathered_memory, at_end}
use Rattle.kt_log_text.proofs.reading.read_rows.Goals as goal

pub loop-log-init : goal.loop-log-init
loop-log-init g c = λ source e. rw (e, c.new-log.ensures.rows) (gathers_none source)

pub loop-log-preserved : goal.loop-log-preserved
loop-log-preserved g c = λ source e.
    rw (c.push_reserved.ensures.rows, c.in_ok-reserve.ensures.rows)
    (gathers_more source c.loop-log.rows c.next.new.self c.loop-log.log.rows c.in-Some.event (c.loop-log.invariant source e) (rw c.in-Some.is at c.in_ok-event.ensures.steps))

pub returns-in_err-event-clause-fault : goal.returns-in_err-event-clause-fault
returns-in_err-event-clause-fault g c =
    let p = err_from_is_err_and c.from_residual.result c.from_residual.ensures.1 in
    let u = c.requires.unread in
    rw (p.1, p.2, u.1)
    (gathered_to_fault u.0 c.loop-log.rows c.next.new.self c.loop-log.log.rows c.in_err-event.field-0.0 (c.loop-log.invariant u.0 u.1) c.in_err-event.ensures.steps)

pub returns-in_err-reserve-clause-fault : goal.returns-in_err-reserve-clause-fault
returns-in_err-reserve-clause-fault g c =
    let p = err_from_is_err_and c.from_residual-in_err-reserve.result c.from_residual-in_err-reserve.ensures.1 in
    let u = c.requires.unread in
    rw (p.1, p.2, u.1) (gathered_memory u.0 c.loop-log.rows c.loop-log.log.rows (c.loop-log.invariant u.0 u.1))

pub returns-clause-found : goal.returns-clause-found
returns-clause-found g c =
    let u = c.requires.unread in
    rw u.1
    (gathered_all u.0 c.loop-log.rows c.next.new.self c.loop-log.log.rows (c.loop-log.invariant u.0 u.1) (at_end c.in_ok-event.field-0 c.in_default.not-Some c.in_ok-event.ensures.steps))
