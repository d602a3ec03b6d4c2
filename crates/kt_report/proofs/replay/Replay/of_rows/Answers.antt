use Rattle.std.proofs.Common.{◌+◌, ◌∙◌, refl, subst}
use Rattle.kt_meaning.specs.Legal.{IsLegal}
use Rattle.kt_meaning.proofs.Items.{take_item}
use Rattle.kt_meaning.proofs.LegalLogs.{legal_take}
use Rattle.kt_rules.proofs.Replayed.{row_read}
use Rattle.kt_report.proofs.replay.Replay.of_rows.Goals as goal

pub loop-place-preserved : goal.loop-place-preserved
loop-place-preserved c =
    let rows = c.args.rows.now in
    let i = c.loop-place.place in
    let at = row_read rows i c.index-rows-place.result c.loop-place-test.true c.index-rows-place.is in
    let more = take_item rows i (i + 1) c.index-rows-place.result refl at in
    record {
      count = c.feed.ensures.count ∙ c.loop-place.invariant.count;
      shows = λ legal. rw more (c.in_ok-feed.ensures.fed (subst IsLegal more (legal_take (i + 1) rows legal)) c.args.kinds.now (c.loop-place.invariant.shows legal));
    }
