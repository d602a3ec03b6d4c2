use Rattle.std.proofs.Common.{◌∙◌, sym}
use Rattle.kt_histories.proofs.ReceivedRows.{no_lost_receive}
use Rattle.kt_histories.proofs.breach.before.Before.not_received.Goals as goal

pub returns-in_err-row : goal.returns-in_err-row
returns-in_err-row c = absurd (no_lost_receive c.args.self.now.rows.now c.args.p c.args.from c.args.msg c.requires.before.legal (sym c.has_received.ensures ∙ c.if-not-has_received.false) c.in_err-row.ensures)
