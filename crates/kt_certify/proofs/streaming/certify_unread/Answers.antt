use Rattle.std.proofs.Common.{sym, ◌∙◌}
use Rattle.kt_log_text.proofs.GatherFacts.{at_end}
use Rattle.kt_certify.proofs.Reading.{read_more, certified_at, unfit_at, short_at, text_at}
use Rattle.kt_certify.proofs.streaming.certify_unread.Goals as goal

pub loop-row-preserved : goal.loop-row-preserved
loop-row-preserved g c = λ source e. read_more c.loop-row.rows c.next.new.self c.loop-row.pass c.feed_told.new.pass c.in-Some.row (c.loop-row.invariant source e) (rw c.in-Some.is at c.in_ok-row.ensures.steps) c.in_ok-feed_told.ensures

pub returns-in-Some-unfit-clause-fault : goal.returns-in-Some-unfit-clause-fault
returns-in-Some-unfit-clause-fault g c = λ source e.
    unfit_at c.loop-row.rows c.next.new.self c.loop-row.pass c.in-Some-unfit.unfit (c.loop-row.invariant source e) (at_end c.in_ok-row.field-0 c.in_default.not-Some c.in_ok-row.ensures.steps) (sym c.unfit.ensures ∙ c.in-Some-unfit.is)

pub returns-in_ok-found-in-None-clause-certificates : goal.returns-in_ok-found-in-None-clause-certificates
returns-in_ok-found-in-None-clause-certificates g c = λ source e.
    certified_at c.loop-row.rows c.next.new.self c.loop-row.pass c.in_ok-found-in-None.field-0.items (c.loop-row.invariant source e) (at_end c.in_ok-row.field-0 c.in_default.not-Some c.in_ok-row.ensures.steps) (sym c.unfit.ensures ∙ c.in-None.is) c.in_ok-found-in-None.ensures

pub returns-in_ok-found-in-None-clause-short : goal.returns-in_ok-found-in-None-clause-short
returns-in_ok-found-in-None-clause-short g c =
    short_at c.loop-row.rows c.loop-row.pass c.in_ok-found-in-None.field-0.items (c.loop-row.invariant c.requires.unread.0 c.requires.unread.1) (sym c.unfit.ensures ∙ c.in-None.is) c.in_ok-found-in-None.ensures

pub returns-in_ok-found-in-None-clause-text : goal.returns-in_ok-found-in-None-clause-text
returns-in_ok-found-in-None-clause-text g c =
    text_at c.loop-row.rows c.loop-row.pass c.in_ok-found-in-None.field-0.items (c.loop-row.invariant c.requires.unread.0 c.requires.unread.1) (sym c.unfit.ensures ∙ c.in-None.is) c.in_ok-found-in-None.ensures
