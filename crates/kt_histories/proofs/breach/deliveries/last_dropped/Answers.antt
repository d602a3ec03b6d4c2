use Rattle.std.proofs.Common.{◌∙◌, ◌+◌, List, take, refl, sym, ap, subst, arith}
use Rattle.std.proofs.lemmas.List.{take_all}
use Rattle.kt_spacetime.specs.declared.event.Event.{Event}
use Rattle.kt_meaning.specs.Past.{Past, past}
use Rattle.kt_meaning.proofs.Items.{take_item}
use Rattle.kt_meaning.proofs.LegalLogs.{past_push, next_unbroken}
use Rattle.kt_rules.proofs.Replayed.{row_read}
use Rattle.kt_histories.specs.Breaches.{IsLastDropped}
use Rattle.kt_histories.proofs.breach.deliveries.last_dropped.Goals as goal

pub loop-place-preserved : goal.loop-place-preserved
loop-place-preserved c =
    let rows = c.args.rows.now in
    let i = c.loop-place.place in
    let row = c.index-rows-place.result in
    let at = row_read rows i row c.loop-place-test.true c.index-rows-place.is in
    let more = take_item rows i (i + 1) row refl at in
    let unbroken = next_unbroken rows i row c.requires.legal at in
    subst (λ (s : Past). IsLastDropped s c.args.p c.args.from c.last_dropped_after-last.result) (sym (ap past more ∙ past_push (take i rows) row))
    (c.last_dropped_after-last.ensures (past (take i rows)) unbroken c.loop-place.invariant)

pub returns : goal.returns
returns c =
    subst (λ (log : List Event). IsLastDropped (past log) c.args.p c.args.from c.loop-place.last) (take_all c.loop-place.place c.args.rows.now (omega (arith, c.loop-place-test.false))) c.loop-place.invariant
