use Rattle.std.proofs.Common.{sym, ◌∙◌}
use Rattle.kt_meaning.specs.Past.{past}
use Rattle.kt_histories.proofs.Traced.{trace_none, trace_some}
use Rattle.kt_histories.proofs.histories.Histories.trace.Goals as goal

pub returns-in_default : goal.returns-in_default
returns-in_default c = λ rows h. trace_none _ rows c.args.msg h.messages (sym c.message.ensures ∙ c.in_default.is)

pub returns : goal.returns
returns c = λ rows h.
    let at = sym c.message.ensures ∙ c.in-Some.is in
    trace_some _ rows c.args.msg c.in-Some.message _ _ h.messages at (c.sent_place-sent.ensures (past rows) h.shows at) (c.received_place-received.ensures (past rows) h.shows at)
