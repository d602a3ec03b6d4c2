use Rattle.std.proofs.Common.{◌∙◌, ◌+◌, length, take, refl, ap, arith}
use Rattle.kt_meaning.specs.Past.{Past, past}
use Rattle.kt_meaning.proofs.Items.{take_item}
use Rattle.kt_meaning.proofs.LegalLogs.{past_push}
use Rattle.kt_rules.proofs.Replayed.{row_read}
use Rattle.kt_histories.proofs.breach.before.begun_in.Goals as goal

pub loop-place-preserved : goal.loop-place-preserved
loop-place-preserved c =
    let rows = c.args.rows.now in
    let i = c.loop-place.place in
    let row = c.index-rows-place.result in
    let at = row_read rows i row c.loop-place-test.true c.index-rows-place.is in
    let more = take_item rows i (i + 1) row refl at in
    let then = ap (λ (s : Past). length s.begun) (ap past more ∙ past_push (take i rows) row) in
    record {
      begun = omega (arith, then, c.count_of-count.ensures.begun (past (take i rows)), c.loop-place.invariant.begun);
      few = omega (arith, c.count_of-count.ensures.one, c.loop-place.invariant.few);
    }
