use Rattle.std.proofs.Common.{◌+◌, take, refl, subst}
use Rattle.kt_meaning.specs.Legal.{IsLegal}
use Rattle.kt_meaning.proofs.Items.{take_item}
use Rattle.kt_meaning.proofs.LegalLogs.{legal_take}
use Rattle.kt_rules.proofs.Replayed.{row_read}
use Rattle.kt_certify.proofs.runs.note_from.Goals as goal

pub loop-place-preserved : goal.loop-place-preserved
loop-place-preserved c =
    let rows = c.args.rows.now in
    let i = c.loop-place.place in
    let row = c.index-rows-place.result in
    let at = row_read rows i row c.loop-place-test.true c.index-rows-place.is in
    let more = take_item rows i (i + 1) row refl at in
    rw more (c.in_ok-note.ensures (take i rows) (c.requires.last i row c.loop-place.auto.place at) (subst IsLegal more (legal_take (i + 1) rows c.requires.legal)) c.loop-place.invariant)
