use Rattle.std.proofs.Common.{◌∙◌, ◌+◌, List, arith, subst, sym, refl, take}
use Rattle.std.proofs.lemmas.List.{length-take-le, take_all}
use Rattle.kt_spacetime.specs.declared.event.Event.{Event}
use Rattle.kt_meaning.proofs.Items.{take_item}
use Rattle.kt_rules.proofs.Replayed.{row_read}
use Rattle.kt_draw.specs.Followed.{ReadingOf}
use Rattle.kt_draw.proofs.drawing.read_log.Goals as goal

pub feed-requires : goal.feed-requires
feed-requires c =
    let items = c.rows-row-items.result.now in
    let i = c.loop-row.row-index in
    record { few = (take i items, c.loop-row.invariant, omega (arith, length-take-le i items (omega (arith, c.loop-row-test.true)), c.rows-row-items.ensures.few, c.loop-row-test.true)) }

pub loop-row-preserved : goal.loop-row-preserved
loop-row-preserved c =
    let items = c.rows-row-items.result.now in
    let i = c.loop-row.row-index in
    let row = c.row-item.result in
    let at = row_read items i row c.loop-row-test.true c.row-item.is in
    subst (λ (l : List Event). ReadingOf c.feed.new.self c.args.span l) (sym (take_item items i (i + 1) row refl at)) (c.in_ok-feed.ensures (take i items) c.loop-row.invariant)

pub returns : goal.returns
returns c =
    let items = c.rows-row-items.result.now in
    subst (λ (l : List Event). ReadingOf c.loop-row.reading c.args.span l) (take_all c.loop-row.row-index items (omega arith) ∙ c.rows-row-items.ensures.rows) c.loop-row.invariant
