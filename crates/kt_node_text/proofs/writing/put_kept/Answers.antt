use Rattle.std.proofs.Common.{◌≡◌, ◌∙◌, ◌<◌, ◌++◌, length, get_or, sym, arith, length-append}
use Rattle.std.proofs.lemmas.Option.{get_or_from_slice_get}
use Rattle.std.proofs.lemmas.List.{get_or_append_left}
use Rattle.kt_manager.specs.Inboxes.{kept_of, held_of}
use Rattle.kt_node_text.specs.Form.{of_item}
use Rattle.kt_node_text.specs.Ranges.{IsItem}
use Rattle.kt_node_text.proofs.Rests.{rest_more, range_more, range_all, is_there}
use Rattle.kt_node_text.proofs.writing.put_kept.Goals as goal
use Rattle.kt_node_text.proofs.writing.put_kept.Goals.{in-Some+in_ok-put_item, in_default}

pub loop-place-preserved : goal.loop-place-preserved
loop-place-preserved c =
    let kept = kept_of c.args.inbox.now c.args.from in
    let held = held_of c.args.inbox.now c.args.from in
    let within : c.loop-place.place < length kept = omega (arith, c.kept_count-count.ensures, c.loop-place-test.true) in
    elim c.match-get.branch [
      | in-Some+in_ok-put_item w ↦
          let item = w.in-Some.item.now in
          let is : item ≡ get_or kept c.loop-place.place item =
          sym (get_or_from_slice_get (kept ++ held) _ item item (sym w.in-Some.ensures)) ∙ get_or_append_left kept held item _ within in
          record {
            numbers = rw w.out-is (rest_more of_item _ kept _ item _ _ c.loop-place.invariant.numbers within is w.in_ok-put_item.ensures.numbers);
            range = range_more IsItem kept _ item c.loop-place.invariant.range within is w.in_ok-put_item.ensures.range;
          }
      | in_default w ↦ absurd (is_there (kept ++ held) _ (sym w.in_default.ensures) (omega (arith, within, length-append kept held)))
    ]

pub returns-clause-range : goal.returns-clause-range
returns-clause-range c =
    range_all IsItem (kept_of c.args.inbox.now c.args.from) _ c.loop-place.invariant.range (omega (arith, c.kept_count-count.ensures, c.loop-place-test.false))
