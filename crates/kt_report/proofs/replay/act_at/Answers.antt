use Rattle.std.proofs.Common.{◌∙◌, sym, ap}
use Rattle.kt_meaning.specs.Past.{Past, past, is_rollback, is_committed}
use Rattle.kt_machine.specs.Values.{closing}
use Rattle.kt_machine.proofs.DoneAlong.{done_past}
use Rattle.kt_report.proofs.replay.act_at.Goals as goal

pub returns-in-Closed : goal.returns-in-Closed
returns-in-Closed c = λ legal h.
    rw c.in-Closed.is (c.closing.ensures (past c.args.before.now) h ∙ ap (λ (s : Past). closing (is_rollback s c.in-Closed.inst) (is_committed s c.in-Closed.inst)) (sym (done_past c.args.before.now)))
