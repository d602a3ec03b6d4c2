use Rattle.std.proofs.Common.{◌+◌, take, refl, sym, subst, arith, length-take, ◌∙◌}
use Rattle.std.proofs.lemmas.List.{take_all}
use Rattle.kt_meaning.proofs.Items.{take_item}
use Rattle.kt_rules.proofs.Replayed.{row_read}
use Rattle.kt_certify.specs.PassOf.{PassOf}
use Rattle.kt_certify.proofs.Fit.{fit_so_far}
use Rattle.kt_certify.proofs.Meant.{all_meant}
use Rattle.kt_certify.proofs.Whole.{unfit_fault, why_unfit, all_certified, writable, says}
use Rattle.kt_certify.proofs.certifying.certify.Goals as goal

pub feed-requires : goal.feed-requires
feed-requires c =
    let rows = c.rows-row-items.result.now in
    let i = c.loop-row.row-index in
    omega (arith, c.loop-row.invariant.few, length-take i rows, c.loop-row-test.true, c.rows-row-items.ensures.few)

pub loop-row-preserved : goal.loop-row-preserved
loop-row-preserved c =
    let rows = c.rows-row-items.result.now in
    let i = c.loop-row.row-index in
    let at = row_read rows i c.row-item.result c.loop-row-test.true c.row-item.is in
    let more = take_item rows i (i + 1) c.row-item.result refl at in
    rw more (c.in_ok-feed.ensures (take i rows) c.loop-row.invariant)

pub returns-in-Some-clause-fault : goal.returns-in-Some-clause-fault
returns-in-Some-clause-fault c =
    let rows = c.rows-row-items.result.now in
    let whole = subst (PassOf c.loop-row.pass) (take_all c.loop-row.row-index rows c.loop-row-test.false) c.loop-row.invariant in
    rw (c.from.ensures, ← c.rows-row-items.ensures.rows) (unfit_fault rows c.in-Some.unfit (whole.unfit c.in-Some.unfit (sym c.unfit.ensures ∙ c.in-Some.is)))

pub returns-in-Some-clause-first : goal.returns-in-Some-clause-first
returns-in-Some-clause-first c =
    let rows = c.rows-row-items.result.now in
    let whole = subst (PassOf c.loop-row.pass) (take_all c.loop-row.row-index rows c.loop-row-test.false) c.loop-row.invariant in
    rw (c.from.ensures, ← c.rows-row-items.ensures.rows) (why_unfit rows c.in-Some.unfit (whole.unfit c.in-Some.unfit (sym c.unfit.ensures ∙ c.in-Some.is)))

pub returns-clause-certificates : goal.returns-clause-certificates
returns-clause-certificates c =
    let rows = c.rows-row-items.result.now in
    let whole = subst (PassOf c.loop-row.pass) (take_all c.loop-row.row-index rows c.loop-row-test.false) c.loop-row.invariant in
    let fit = fit_so_far c.loop-row.pass rows whole (sym c.unfit.ensures ∙ c.in-None.is) in
    rw (← c.rows-row-items.ensures.rows) (all_certified c.loop-row.pass rows c.in_ok-found-in-None.field-0.items fit c.in_ok-found-in-None.ensures)

pub returns-clause-chained : goal.returns-clause-chained
returns-clause-chained c =
    let rows = c.rows-row-items.result.now in
    let whole = subst (PassOf c.loop-row.pass) (take_all c.loop-row.row-index rows c.loop-row-test.false) c.loop-row.invariant in
    let fit = fit_so_far c.loop-row.pass rows whole (sym c.unfit.ensures ∙ c.in-None.is) in
    rw (← c.rows-row-items.ensures.rows) (fit.chained)

pub returns-clause-meant : goal.returns-clause-meant
returns-clause-meant c =
    let rows = c.rows-row-items.result.now in
    let whole = subst (PassOf c.loop-row.pass) (take_all c.loop-row.row-index rows c.loop-row-test.false) c.loop-row.invariant in
    let fit = fit_so_far c.loop-row.pass rows whole (sym c.unfit.ensures ∙ c.in-None.is) in
    rw (← c.rows-row-items.ensures.rows) (all_meant c.loop-row.pass rows c.in_ok-found-in-None.field-0.items fit c.in_ok-found-in-None.ensures)

pub returns-clause-short : goal.returns-clause-short
returns-clause-short c =
    let rows = c.rows-row-items.result.now in
    let whole = subst (PassOf c.loop-row.pass) (take_all c.loop-row.row-index rows c.loop-row-test.false) c.loop-row.invariant in
    let fit = fit_so_far c.loop-row.pass rows whole (sym c.unfit.ensures ∙ c.in-None.is) in
    writable c.loop-row.pass rows c.in_ok-found-in-None.field-0.items fit c.in_ok-found-in-None.ensures c.rows-row-items.ensures.in_range

pub returns-clause-text : goal.returns-clause-text
returns-clause-text c =
    let rows = c.rows-row-items.result.now in
    let whole = subst (PassOf c.loop-row.pass) (take_all c.loop-row.row-index rows c.loop-row-test.false) c.loop-row.invariant in
    let fit = fit_so_far c.loop-row.pass rows whole (sym c.unfit.ensures ∙ c.in-None.is) in
    says c.loop-row.pass rows c.in_ok-found-in-None.field-0.items fit c.in_ok-found-in-None.ensures c.rows-row-items.ensures.in_range c.rows-row-items.ensures.few
