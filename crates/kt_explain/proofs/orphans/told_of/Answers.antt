use Rattle.std.proofs.Common.{◌≡◌, ◌∙◌, ◌<◌, Some, length, refl, ap, subst, arith}
use Rattle.std.specs.List.{slice_get}
use Rattle.std.proofs.lemmas.Option.{slice_get-get_or, slice_get_within, get_or_from_slice_get}
use Rattle.kt_spacetime.specs.declared.event.Event.{Event}
use Rattle.kt_spacetime.specs.declared.event.Event.TheVariants as event
use Rattle.kt_histories.specs.Finding.{IsLastRow, receives}
use Rattle.kt_histories.proofs.FoundRows.{received_row}
use Rattle.kt_histories.proofs.ReceivedRows.{orphan_rows, message_index, index_message, no_lost_orphan}
use Rattle.kt_explain.proofs.orphans.told_of.Goals as goal

pub returns-then-index-rows-clause-none : goal.returns-then-index-rows-clause-none
returns-then-index-rows-clause-none c = λ cut orphan.
    let rows = c.args.rows.now in
    let h = orphan_rows rows cut c.args.msg c.requires.legal orphan in
    let there = message_index rows c.args.msg c.index-index.result h.from h.to c.index-index.ensures.value h.message in
    let low : c.index-index.result < length rows = slice_get_within rows c.index-index.result _ there in
    absurd (omega (arith, low, c.if-index-rows.true))

pub returns-in_default : goal.returns-in_default
returns-in_default c = record {
  orphan = tt;
  none = λ cut orphan.
      let rows = c.args.rows.now in
      let h = orphan_rows rows cut c.args.msg c.requires.legal orphan in
      let there = message_index rows c.args.msg c.index-index.result h.from h.to c.index-index.ensures.value h.message in
      absurd (c.in_default.not-Sent h.from h.to h.message.0 (get_or_from_slice_get rows c.index-index.result (event.Sent h.from h.to h.message.0) _ there));
}

pub returns-in-None-clause-none : goal.returns-in-None-clause-none
returns-in-None-clause-none c = λ cut orphan.
    let rows = c.args.rows.now in
    let low : c.index-index.result < length rows = omega (arith, c.if-index-rows.false) in
    let there : slice_get rows c.index-index.result ≡ Some (event.Sent c.in-Sent.from c.in-Sent.to c.in-Sent.body) = slice_get-get_or rows c.index-index.result _ low ∙ ap Some c.in-Sent.is in
    absurd (no_lost_orphan rows cut c.args.msg c.in-Sent.from c.in-Sent.to c.requires.legal orphan (index_message rows c.args.msg c.index-index.result c.in-Sent.from c.in-Sent.to c.in-Sent.body c.index-index.ensures.value there) c.in-None.ensures)

pub returns-in-Some-clause-orphan : goal.returns-in-Some-clause-orphan
returns-in-Some-clause-orphan c =
    let rows = c.args.rows.now in
    let low : c.index-index.result < length rows = omega (arith, c.if-index-rows.false) in
    let there : slice_get rows c.index-index.result ≡ Some (event.Sent c.in-Sent.from c.in-Sent.to c.in-Sent.body) = slice_get-get_or rows c.index-index.result _ low ∙ ap Some c.in-Sent.is in
    let last = c.in-Some.ensures in
    record {
      msg_is = refl;
      message = index_message rows c.args.msg c.index-index.result c.in-Sent.from c.in-Sent.to c.in-Sent.body c.index-index.ensures.value there;
      received = subst (λ (row : Event). IsLastRow (receives c.in-Sent.to c.in-Sent.from c.args.msg) rows c.in-Some.received row) (received_row c.in-Sent.to c.in-Sent.from c.args.msg last.0 last.1.passes) last.1;
      undone = c.requires.undone;
      sender = c.is_among.ensures;
      receiver = c.is_among-in-Some.ensures;
    }
