use Rattle.std.proofs.Common.{◌≡◌, ◌∙◌, ◌<◌, ◌+◌, ◌++◌, length, get_or, sym, ap, arith, length-append}
use Rattle.std.proofs.lemmas.Option.{get_or_from_slice_get}
use Rattle.std.proofs.lemmas.List.{get_or-append-add}
use Rattle.kt_manager.specs.Inboxes.{kept_of, held_of}
use Rattle.kt_node_text.specs.Form.{of_item}
use Rattle.kt_node_text.specs.Ranges.{IsItem}
use Rattle.kt_node_text.proofs.Rests.{rest_more, range_more, range_all, is_there}
use Rattle.kt_node_text.proofs.writing.put_held.Goals as goal
use Rattle.kt_node_text.proofs.writing.put_held.Goals.{in-Some+in_ok-put_item, in_default}

pub loop-place-preserved : goal.loop-place-preserved
loop-place-preserved c =
    let kept = kept_of c.args.inbox.now c.args.from in
    let held = held_of c.args.inbox.now c.args.from in
    let i = c.loop-place.place in
    let first : c.kept_count-kept.result ≡ length kept = c.kept_count-kept.ensures in
    let within : i < length held = omega (arith, first, c.len.ensures, c.loop-place-test.true) in
    elim c.match-get.branch [
      | in-Some+in_ok-put_item w ↦
          let item = w.in-Some.item.now in
          let is : item ≡ get_or held i item =
          sym (get_or_from_slice_get (kept ++ held) (c.kept_count-kept.result + i) item item (sym w.in-Some.ensures))
          ∙ (ap (λ n. get_or (kept ++ held) (n + i) item) first ∙ get_or-append-add kept held i item) in
          record {
            numbers = rw w.out-is (rest_more of_item _ held _ item _ _ c.loop-place.invariant.numbers within is w.in_ok-put_item.ensures.numbers);
            range = range_more IsItem held _ item c.loop-place.invariant.range within is w.in_ok-put_item.ensures.range;
          }
      | in_default w ↦ absurd (is_there (kept ++ held) _ (sym w.in_default.ensures) (omega (arith, within, first, length-append kept held)))
    ]

pub returns-clause-range : goal.returns-clause-range
returns-clause-range c =
    range_all IsItem (held_of c.args.inbox.now c.args.from) _ c.loop-place.invariant.range (omega (arith, c.kept_count-kept.ensures, c.len.ensures, c.loop-place-test.false))
