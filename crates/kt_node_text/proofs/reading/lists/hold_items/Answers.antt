use Rattle.std.specs.List.{flat_map}
use Rattle.std.proofs.Common.{◌≡◌, ◌∙◌, ◌+◌, ◌++◌, ℕ, List, length, drop, ap, arith, rules, append_assoc}
use Rattle.kt_manager.specs.declared.received.Item.{Item}
use Rattle.kt_node_text.specs.Form.{of_item}
use Rattle.kt_node_text.specs.Ranges.{IsItem}
use Rattle.kt_node_text.proofs.Counted.{enough_items}
use Rattle.kt_node_text.proofs.OneAfterAnother.{stops}
use Rattle.kt_node_text.proofs.ListReads.{next_read, more_read}
use Rattle.kt_node_text.proofs.GatheredReads.{Lists, one_put, others_stay}
use Rattle.kt_node_text.proofs.reading.lists.hold_items.Goals as goal

abbrev all : List Item → List ℕ
all xs = flat_map of_item xs

pub returns-in_err-item-clause-read : goal.returns-in_err-item-clause-read
returns-in_err-item-clause-read c = λ xs after range e.
    let count : c.in_ok-count.count ≡ length xs = (c.in_ok-count.ensures.read (length xs) (all xs ++ after) (enough_items xs after) e).0 in
    let n = next_read IsItem all xs _ after _ _ _ (c.loop.invariant.read xs after range e) (omega (arith, c.loop-test.true)) range in
    let rest = all (drop (c.loop.counter + 1) xs) in
    stops _ _ _ _ _ c.from_residual-in_err-item.ensures.1
    (c.in_err-item.ensures n.0 (rest ++ after) n.1.fits (n.1.left ∙ append_assoc (of_item n.0) rest after))

pub returns-in_err-make_room-clause-others : goal.returns-in_err-make_room-clause-others
returns-in_err-make_room-clause-others c = λ q h. ap (λ (g : Lists). g q) c.make_room.ensures.held ∙ c.loop.invariant.others q h

pub loop-preserved : goal.loop-preserved
loop-preserved c = record {
  processes = search rules;
  stays = c.hold.ensures.kept ∙ (c.make_room.ensures.kept ∙ c.loop.invariant.stays);
  others = λ q h. others_stay _ _ _ _ _ q c.make_room.ensures.held c.hold.ensures.held h ∙ c.loop.invariant.others q h;
  read = λ xs after range e.
      let count : c.in_ok-count.count ≡ length xs = (c.in_ok-count.ensures.read (length xs) (all xs ++ after) (enough_items xs after) e).0 in
      let n = next_read IsItem all xs _ after _ _ _ (c.loop.invariant.read xs after range e) (omega (arith, c.loop-test.true)) range in
      let rest = all (drop (c.loop.counter + 1) xs) in
      let x = c.in_ok-item.ensures n.0 (rest ++ after) n.1.fits (n.1.left ∙ append_assoc (of_item n.0) rest after) in
      more_read IsItem all xs _ after _ _ _ _ _ n.0 _ (c.loop.invariant.read xs after range e) n.1
      (one_put _ _ _ _ _ c.make_room.ensures.held c.hold.ensures.held) x.0 x.1;
}

pub returns-in_err-count-clause-read : goal.returns-in_err-count-clause-read
returns-in_err-count-clause-read c = λ xs after range e.
    stops _ _ _ _ _ c.from_residual.ensures.1 (c.in_err-count.ensures.read (length xs) (all xs ++ after) (enough_items xs after) e)
