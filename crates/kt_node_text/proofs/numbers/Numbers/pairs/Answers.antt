use Rattle.std.specs.List.{flat_map}
use Rattle.std.proofs.Common.{◌≡◌, ◌+◌, ◌++◌, ◌∷◌, [], ℕ, List, length, drop, refl, arith}
use Rattle.kt_node_text.specs.Form.{of_pair}
use Rattle.kt_node_text.specs.Ranges.{IsPair}
use Rattle.kt_node_text.proofs.Counted.{enough_pairs}
use Rattle.kt_node_text.proofs.OneAfterAnother.{stops}
use Rattle.kt_node_text.proofs.ListReads.{none_read, next_read, more_read, all_read}
use Rattle.kt_node_text.proofs.numbers.Numbers.pairs.Goals as goal

abbrev all : List (ℕ × ℕ) → List ℕ
all xs = flat_map of_pair xs

pub loop-init : goal.loop-init
loop-init c = λ xs after range e. none_read all xs after _ _ c.new-pairs.ensures.items (c.in_ok-count.ensures.read (length xs) (all xs ++ after) (enough_pairs xs after) e).1

pub returns-in_err-process-clause-read : goal.returns-in_err-process-clause-read
returns-in_err-process-clause-read c = λ xs after range e.
    let count : c.in_ok-count.count ≡ length xs = (c.in_ok-count.ensures.read (length xs) (all xs ++ after) (enough_pairs xs after) e).0 in
    let n = next_read IsPair all xs [] after _ _ _ (c.loop.invariant xs after range e) (omega (arith, c.loop-test.true)) range in
    stops _ _ _ _ _ c.from_residual-in_err-process.ensures.1 (c.in_err-process.ensures.read n.0.0 (n.0.1 ∷ (all (drop (c.loop.counter + 1) xs) ++ after)) n.1.fits.0 n.1.left)

pub returns-in_err-label-clause-read : goal.returns-in_err-label-clause-read
returns-in_err-label-clause-read c = λ xs after range e.
    let count : c.in_ok-count.count ≡ length xs = (c.in_ok-count.ensures.read (length xs) (all xs ++ after) (enough_pairs xs after) e).0 in
    let n = next_read IsPair all xs [] after _ _ _ (c.loop.invariant xs after range e) (omega (arith, c.loop-test.true)) range in
    let p = c.in_ok-process.ensures.read n.0.0 (n.0.1 ∷ (all (drop (c.loop.counter + 1) xs) ++ after)) n.1.fits.0 n.1.left in
    stops _ _ _ _ _ c.from_residual-in_err-label.ensures.1 (c.in_err-label.ensures.read n.0.1 (all (drop (c.loop.counter + 1) xs) ++ after) n.1.fits.1 p.1)

pub loop-preserved : goal.loop-preserved
loop-preserved c = λ xs after range e.
    let count : c.in_ok-count.count ≡ length xs = (c.in_ok-count.ensures.read (length xs) (all xs ++ after) (enough_pairs xs after) e).0 in
    let n = next_read IsPair all xs [] after _ _ _ (c.loop.invariant xs after range e) (omega (arith, c.loop-test.true)) range in
    let p = c.in_ok-process.ensures.read n.0.0 (n.0.1 ∷ (all (drop (c.loop.counter + 1) xs) ++ after)) n.1.fits.0 n.1.left in
    let l = c.in_ok-label.ensures.read n.0.1 (all (drop (c.loop.counter + 1) xs) ++ after) n.1.fits.1 p.1 in
    more_read IsPair all xs [] after _ _ _ _ _ n.0 _ (c.loop.invariant xs after range e) n.1 c.in_ok-push.ensures.items (λ i. (p.0 i, l.0 i)) l.1

pub returns-clause-read : goal.returns-clause-read
returns-clause-read c = λ xs after range e.
    let count : c.in_ok-count.count ≡ length xs = (c.in_ok-count.ensures.read (length xs) (all xs ++ after) (enough_pairs xs after) e).0 in
    all_read all xs [] after _ _ _ (c.loop.invariant xs after range e) (omega (arith, c.loop-test.false)) refl

pub returns-in_err-count-clause-read : goal.returns-in_err-count-clause-read
returns-in_err-count-clause-read c = λ xs after range e.
    stops _ _ _ _ _ c.from_residual.ensures.1 (c.in_err-count.ensures.read (length xs) (all xs ++ after) (enough_pairs xs after) e)
