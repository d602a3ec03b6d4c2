use Rattle.std.proofs.Common.{sym, subst}
use Rattle.std.proofs.lemmas.Result.{IfOk-weaker}
use Rattle.kt_meaning.specs.Legal.{IsLegal}
use Rattle.kt_meaning.proofs.LegalLogs.{legal_take}
use Rattle.kt_meaning.specs.Fitness.{IsFitLog}
use Rattle.kt_certify.proofs.RunFacts.{fit_in_front, are_certificates, are_as_meant, are_short, are_said}
use Rattle.kt_certify.proofs.runs.certificates_of_run.Goals as goal

pub feed_all-requires-clause-walk : goal.feed_all-requires-clause-walk
feed_all-requires-clause-walk c = (fit_in_front _ c.requires.legal c.requires.chained 0 c.in_ok-pass.pass c.in_ok-pass.ensures).walk

pub feed_all-requires-clause-instances : goal.feed_all-requires-clause-instances
feed_all-requires-clause-instances c = (fit_in_front _ c.requires.legal c.requires.chained 0 c.in_ok-pass.pass c.in_ok-pass.ensures).instances

pub feed_all-requires-clause-legal : goal.feed_all-requires-clause-legal
feed_all-requires-clause-legal c =
    let rows = c.rows-rows.result.now in
    legal_take c.rows_to_commit-walked.result rows (subst IsLegal (sym c.rows-rows.ensures.rows) c.requires.legal)

pub returns-clause-certificates : goal.returns-clause-certificates
returns-clause-certificates c =
    let rows = c.rows-rows.result.now in
    rw (← c.rows-rows.ensures.rows) (IfOk-weaker c.found.result _ _ (λ list found. are_certificates rows _ list.items c.in_ok-note_from.ensures found) c.found.ensures)

pub returns-clause-meant : goal.returns-clause-meant
returns-clause-meant c =
    let rows = c.rows-rows.result.now in
    let fit = subst IsFitLog (sym c.rows-rows.ensures.rows) (record { legal = c.requires.legal; chained = c.requires.chained }) in
    rw (← c.rows-rows.ensures.rows) (IfOk-weaker c.found.result _ _ (λ list found. are_as_meant rows _ list.items c.in_ok-note_from.ensures found fit) c.found.ensures)

pub returns-clause-short : goal.returns-clause-short
returns-clause-short c =
    let rows = c.rows-rows.result.now in
    let legal = subst IsLegal (sym c.rows-rows.ensures.rows) c.requires.legal in
    IfOk-weaker c.found.result _ _ (λ list found. are_short rows _ list.items c.in_ok-note_from.ensures found legal c.rows-rows.ensures.in_range) c.found.ensures

pub returns-clause-text : goal.returns-clause-text
returns-clause-text c =
    let rows = c.rows-rows.result.now in
    let legal = subst IsLegal (sym c.rows-rows.ensures.rows) c.requires.legal in
    IfOk-weaker c.found.result _ _ (λ list found. are_said rows _ list.items c.in_ok-note_from.ensures found legal c.rows-rows.ensures.in_range c.rows-rows.ensures.few) c.found.ensures
