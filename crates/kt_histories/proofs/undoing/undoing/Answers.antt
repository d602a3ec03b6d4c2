use Rattle.std.proofs.Common.{◌∙◌, ◌+◌, List, take, refl, sym, subst, arith}
use Rattle.std.proofs.lemmas.List.{length-take-le}
use Rattle.std.proofs.lemmas.Option.{slice_get_within}
use Rattle.kt_spacetime.specs.declared.event.Event.{Event}
use Rattle.kt_meaning.specs.Legal.{IsLegal}
use Rattle.kt_meaning.proofs.Items.{take_item}
use Rattle.kt_meaning.proofs.LegalLogs.{legal_take}
use Rattle.kt_rules.proofs.Replayed.{row_read}
use Rattle.kt_histories.specs.HistoriesOf.{HistoriesOf}
use Rattle.kt_histories.proofs.Replaying.{messages_kept}
use Rattle.kt_histories.proofs.undoing.undoing.Goals as goal
use Rattle.kt_histories.proofs.undoing.undoing.Goals.{then-was+then-not-is, else-was}

pub add-requires : goal.add-requires
add-requires c =
    let rows = c.args.rows.now in
    let i = c.loop-place.place in
    let h = c.loop-place.histories in
    let at = row_read rows i c.index-rows-place.result c.loop-place-test.true c.index-rows-place.is in
    let low = slice_get_within rows i c.index-rows-place.result at in
    let kept = messages_kept h (take i rows) c.loop-place.invariant.known in
    record { few = omega (arith, kept, h.replay.messages.ok.0, length-take-le i rows (omega (arith, low)), low, c.requires.few) }

pub loop-place-preserved : goal.loop-place-preserved
loop-place-preserved c =
    let rows = c.args.rows.now in
    let msg = c.args.msg in
    let i = c.loop-place.place in
    let row = c.index-rows-place.result in
    let at = row_read rows i row c.loop-place-test.true c.index-rows-place.is in
    let more = take_item rows i (i + 1) row refl at in
    let legal = subst IsLegal more (legal_take (i + 1) rows c.requires.legal) in
    let known : HistoriesOf c.add.new.self (take (i + 1) rows) = subst (λ (log : List Event). HistoriesOf c.add.new.self log) (sym more) (c.in_ok-add.ensures (take i rows) c.loop-place.invariant.known legal) in
    record {
      known = known;
      undone = elim c.if-was.branch [
        | then-was+then-not-is w ↦ rw w.undone-is (record {
          place = i;
          number_is = w.after.ensures;
          before = sym (c.is_send_live-was.ensures (take i rows) c.loop-place.invariant.known) ∙ w.if-was.true;
          after = sym (c.is_send_live-is.ensures (take (i + 1) rows) known) ∙ w.if-not-is.true;
        })
        | else-was w ↦ rw w.undone-is c.loop-place.invariant.undone
      ];
    }
