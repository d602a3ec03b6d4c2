use Rattle.std.proofs.Common.{refl, false}
use Rattle.kt_meaning.proofs.LegalLogs.{legal_last, past_push, kept}
use Rattle.kt_meaning.specs.Past.{past}
use Rattle.kt_spacetime.specs.declared.event.Event.TheVariants.{Decided}
use Rattle.kt_report.proofs.InstanceFacts.{begins}
use Rattle.kt_report.proofs.closings.note.Goals as goal

pub returns-in_ok-push-in-Began : goal.returns-in_ok-push-in-Began
returns-in_ok-push-in-Began c = λ rows legal h.
    rw (c.in_ok-push-in-Began.ensures.items, past_push rows c.args.row.now, c.in-Began.is) (begins c.args.instances.now.items (past rows) c.in-Began.p c.in-Began.inst (record { kind = c.in-Began.kind; is_committed = false }) refl h)

pub returns-in-Decided : goal.returns-in-Decided
returns-in-Decided c = λ rows legal h.
    let unbroken = rw c.in-Decided.is at (legal_last rows c.args.row.now legal).1 in
    let begun = (kept (past rows) (Decided c.in-Decided.p c.in-Decided.inst c.in-Decided.commit) unbroken).numbers in
    rw (past_push rows c.args.row.now, c.in-Decided.is) (c.decide.ensures (past rows) c.in-Decided.p begun h)
