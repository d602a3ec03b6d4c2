use Rattle.std.proofs.Common.{◌+◌, List, take, refl, sym, subst, arith}
use Rattle.std.proofs.lemmas.List.{length-take-le}
use Rattle.std.proofs.lemmas.Option.{slice_get_within}
use Rattle.kt_spacetime.specs.declared.event.Event.{Event}
use Rattle.kt_meaning.specs.Legal.{IsLegal}
use Rattle.kt_meaning.proofs.Items.{take_item}
use Rattle.kt_meaning.proofs.LegalLogs.{legal_take}
use Rattle.kt_rules.proofs.Replayed.{row_read}
use Rattle.kt_histories.specs.HistoriesOf.{HistoriesOf}
use Rattle.kt_histories.proofs.Replaying.{messages_kept}
use Rattle.kt_histories.proofs.breach.before.Before.of.Goals as goal

pub add-requires : goal.add-requires
add-requires c =
    let rows = c.args.rows.now in
    let i = c.loop-row.row-index in
    let h = c.loop-row.histories in
    let at = row_read rows i c.row-item.result c.loop-row-test.true c.row-item.is in
    let low = slice_get_within rows i c.row-item.result at in
    let kept = messages_kept h (take i rows) c.loop-row.invariant in
    record { few = omega (arith, kept, h.replay.messages.ok.0, length-take-le i rows (omega (arith, low)), low, c.requires.few) }

pub loop-row-preserved : goal.loop-row-preserved
loop-row-preserved c =
    let rows = c.args.rows.now in
    let i = c.loop-row.row-index in
    let row = c.row-item.result in
    let at = row_read rows i row c.loop-row-test.true c.row-item.is in
    let more = take_item rows i (i + 1) row refl at in
    let legal = subst IsLegal more (legal_take (i + 1) rows c.requires.legal) in
    subst (λ (log : List Event). HistoriesOf c.add.new.self log) (sym more) (c.in_ok-add.ensures (take i rows) c.loop-row.invariant legal)
