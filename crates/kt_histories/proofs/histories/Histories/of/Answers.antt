use Rattle.std.proofs.Common.{◌+◌, take, refl, subst, sym}
use Rattle.kt_meaning.specs.Legal.{IsLegal}
use Rattle.kt_meaning.proofs.Items.{take_item}
use Rattle.kt_meaning.proofs.LegalLogs.{legal_take, next_unbroken}
use Rattle.kt_rules.proofs.Replayed.{row_read}
use Rattle.kt_histories.proofs.Replayed.{replayed}
use Rattle.kt_histories.proofs.histories.Histories.of.Goals as goal

pub loop-row-preserved : goal.loop-row-preserved
loop-row-preserved c =
    let whole = subst IsLegal (sym c.rows.ensures.rows) c.requires.legal in
    let at = row_read (take c.args.upto c.rows.result.now) c.loop-row.row-index c.row-item.result c.loop-row-test.true c.row-item.is in
    let keeps = next_unbroken (take c.args.upto c.rows.result.now) c.loop-row.row-index c.row-item.result (legal_take c.args.upto c.rows.result.now whole) at in
    rw (take_item (take c.args.upto c.rows.result.now) c.loop-row.row-index (c.loop-row.row-index + 1) c.row-item.result refl at)
    (replayed _ _ _ _ c.loop-row.invariant keeps (c.in_ok-add.ensures.shows _) c.in_ok-add.ensures.parties)
