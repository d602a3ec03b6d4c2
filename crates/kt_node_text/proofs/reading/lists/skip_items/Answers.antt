use Rattle.std.specs.List.{flat_map}
use Rattle.std.proofs.Common.{◌≡◌, ◌∙◌, ◌+◌, ◌++◌, [], ℕ, List, length, drop, refl, arith, append_assoc}
use Rattle.kt_manager.specs.declared.received.Item.{Item}
use Rattle.kt_node_text.specs.Form.{of_item}
use Rattle.kt_node_text.specs.Ranges.{IsItem}
use Rattle.kt_node_text.proofs.Counted.{enough_items}
use Rattle.kt_node_text.proofs.OneAfterAnother.{stops}
use Rattle.kt_node_text.proofs.ListReads.{none_read, next_read, all_read}
use Rattle.kt_node_text.proofs.reading.lists.skip_items.Goals as goal

abbrev all : List Item → List ℕ
all xs = flat_map of_item xs

pub loop-init : goal.loop-init
loop-init c = λ xs after range e. none_read all xs after _ _ refl (c.in_ok-count.ensures.read (length xs) (all xs ++ after) (enough_items xs after) e).1

pub returns-in_err-_item-clause-read : goal.returns-in_err-_item-clause-read
returns-in_err-_item-clause-read c = λ xs after range e.
    let count : c.in_ok-count.count ≡ length xs = (c.in_ok-count.ensures.read (length xs) (all xs ++ after) (enough_items xs after) e).0 in
    let n = next_read IsItem all xs [] after _ _ _ (c.loop.invariant xs after range e) (omega (arith, c.loop-test.true)) range in
    let rest = all (drop (c.loop.counter + 1) xs) in
    stops _ _ _ _ _ c.from_residual-in_err-_item.ensures.1
    (c.in_err-_item.ensures n.0 (rest ++ after) n.1.fits (n.1.left ∙ append_assoc (of_item n.0) rest after))

pub loop-preserved : goal.loop-preserved
loop-preserved c = λ xs after range e.
    let count : c.in_ok-count.count ≡ length xs = (c.in_ok-count.ensures.read (length xs) (all xs ++ after) (enough_items xs after) e).0 in
    let n = next_read IsItem all xs [] after _ _ _ (c.loop.invariant xs after range e) (omega (arith, c.loop-test.true)) range in
    let rest = all (drop (c.loop.counter + 1) xs) in
    let x = c.in_ok-_item.ensures n.0 (rest ++ after) n.1.fits (n.1.left ∙ append_assoc (of_item n.0) rest after) in
    record { read = refl; left = x.1 }

pub returns-clause-read : goal.returns-clause-read
returns-clause-read c = λ xs after range e.
    let count : c.in_ok-count.count ≡ length xs = (c.in_ok-count.ensures.read (length xs) (all xs ++ after) (enough_items xs after) e).0 in
    let read = all_read all xs [] after _ _ _ (c.loop.invariant xs after range e) (omega (arith, c.loop-test.false)) refl in
    (read.1, read.1)

pub returns-in_err-count-clause-read : goal.returns-in_err-count-clause-read
returns-in_err-count-clause-read c = λ xs after range e.
    stops _ _ _ _ _ c.from_residual.ensures.1 (c.in_err-count.ensures.read (length xs) (all xs ++ after) (enough_items xs after) e)
