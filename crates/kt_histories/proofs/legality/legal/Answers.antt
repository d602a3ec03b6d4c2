use Rattle.std.proofs.Common.{◌≡◌, ◌+◌, length, rules, Some, arith, refl, sym, ◌∙◌}
use Rattle.kt_meaning.specs.Past.{start}
use Rattle.kt_meaning.proofs.Items.{take_item}
use Rattle.kt_meaning.proofs.LegalLogs.{first_broken_at, legal_push}
use Rattle.kt_rules.proofs.Replayed.{row_read}
use Rattle.kt_histories.proofs.Replayed.{replayed, next_number}
use Rattle.kt_histories.proofs.legality.legal.Goals as goal

pub returns-in-Some-clause-broken : goal.returns-in-Some-clause-broken
returns-in-Some-clause-broken c = λ row rule e.
    let rows = c.rows-row-items.ensures.rows in
    let inv = c.loop-row.invariant in
    let at = row_read _ _ _ c.loop-row-test.true c.row-item.is in
    let breaks = sym (c.broken_rule.ensures _ inv.stands.shows) ∙ c.in-Some.is in
    let first = first_broken_at start c.rows-row-items.result.now c.loop-row.row-index c.row-item.result c.in-Some.rule inv.legal at breaks in
    let number : c.after.result ≡ row = cc in
    let same : c.in-Some.rule ≡ rule = cc in
    let next : c.after.result ≡ length c.loop-row.replay.messages.items + 1 = search rules in
    let counted = next ∙ next_number _ _ _ c.loop-row-test.true inv.stands in
    let here : 0 + (c.loop-row.row-index + 1) ≡ row = omega (arith, counted, number) in
    rw (← rows) (first ∙ (λ i. Some (here i, same i)))

pub loop-row-preserved : goal.loop-row-preserved
loop-row-preserved c =
    let inv = c.loop-row.invariant in
    let at = row_read _ _ _ c.loop-row-test.true c.row-item.is in
    let keeps = sym (c.broken_rule.ensures _ inv.stands.shows) ∙ c.in_default.is in
    rw (take_item c.rows-row-items.result.now c.loop-row.row-index (c.loop-row.row-index + 1) c.row-item.result refl at) (record {
      stands = replayed _ _ _ _ inv.stands keeps (c.in_ok-add.ensures.shows _) c.in_ok-add.ensures.parties;
      legal = legal_push _ _ inv.legal keeps;
    })
