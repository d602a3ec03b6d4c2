use Rattle.std.proofs.Common.{◌+◌, refl, subst, take}
use Rattle.kt_meaning.specs.Legal.{IsLegal}
use Rattle.kt_meaning.proofs.Items.{take_item}
use Rattle.kt_meaning.proofs.LegalLogs.{legal_take}
use Rattle.kt_rules.proofs.Replayed.{row_read}
use Rattle.kt_report.proofs.losses.walk_along.Goals as goal

pub returns-then-not-branch : goal.returns-then-not-branch
returns-then-not-branch c = λ legal.
    let rows = c.args.rows.now in
    let i = c.loop-place.place in
    let at = row_read rows i c.index-rows-place.result c.loop-place-test.true c.index-rows-place.is in
    let more = take_item rows i (i + 1) c.index-rows-place.result refl at in
    absurd (c.in_ok-is_fed.ensures.broken c.if-not-branch.true (take i rows) c.loop-place.invariant (subst IsLegal more (legal_take (i + 1) rows legal)))

pub loop-place-preserved : goal.loop-place-preserved
loop-place-preserved c =
    let rows = c.args.rows.now in
    let i = c.loop-place.place in
    let at = row_read rows i c.index-rows-place.result c.loop-place-test.true c.index-rows-place.is in
    let more = take_item rows i (i + 1) c.index-rows-place.result refl at in
    rw more ((c.in_ok-is_fed.ensures.fed c.if-not-branch.false (take i rows) c.loop-place.invariant).1)
