use Rattle.std.proofs.Common.{◌+◌, take, refl, sym, subst, arith, inl, inr, length-take}
use Rattle.std.proofs.lemmas.List.{take_all}
use Rattle.std.proofs.lemmas.Result.{IfOk-weaker}
use Rattle.kt_meaning.proofs.Items.{take_item}
use Rattle.kt_rules.proofs.Replayed.{row_read}
use Rattle.kt_checker.specs.Judged.{JudgeOf}
use Rattle.kt_meaning.specs.Answers.{IsBadLog}
use Rattle.kt_checker.proofs.Judging.{bad_front}
use Rattle.kt_checker.proofs.checking.judge_rows.Goals as goal

pub feed_row-requires : goal.feed_row-requires
feed_row-requires c =
    let rows = c.rows-row-items.result.now in
    let i = c.loop-row.row-index in
    omega (arith, c.loop-row.invariant.walk.control.number, length-take i rows, c.loop-row-test.true, c.rows-row-items.ensures.few)

pub loop-row-preserved : goal.loop-row-preserved
loop-row-preserved c =
    let rows = c.rows-row-items.result.now in
    let i = c.loop-row.row-index in
    let at = row_read rows i c.row-item.result c.loop-row-test.true c.row-item.is in
    let more = take_item rows i (i + 1) c.row-item.result refl at in
    rw more (c.in_ok-verdict.ensures.fed c.in_default.is (take i rows) c.loop-row.invariant)

pub returns-in-Some : goal.returns-in-Some
returns-in-Some c =
    let rows = c.rows-row-items.result.now in
    let i = c.loop-row.row-index in
    let at = row_read rows i c.row-item.result c.loop-row-test.true c.row-item.is in
    let more = take_item rows i (i + 1) c.row-item.result refl at in
    let bad = (rw c.in-Some.is at c.in_ok-verdict.ensures.bad) (take i rows) c.loop-row.invariant in
    let whole = bad_front (i + 1) rows c.in-Some.verdict (subst (λ l. IsBadLog l c.in-Some.verdict) (sym more) bad) in
    rw (← c.rows-row-items.ensures.rows) (inr (inl whole))

pub returns : goal.returns
returns c =
    let rows = c.rows-row-items.result.now in
    let judged = subst (JudgeOf c.loop-row.judge c.args.certificates.now) (take_all c.loop-row.row-index rows c.loop-row-test.false) c.loop-row.invariant in
    IfOk-weaker c.verdict.result _ _ (λ v answer. rw (← c.rows-row-items.ensures.rows) (answer rows judged.walk.control.legal judged.gathered)) c.verdict.ensures
