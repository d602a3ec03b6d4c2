use Rattle.std.specs.Prelude.{All}
use Rattle.std.proofs.Common.{◌≡◌, ◌+◌, ◌++◌, [], ℕ, List, length, drop, refl, arith}
use Rattle.kt_node_text.proofs.Counted.{as_many}
use Rattle.kt_node_text.proofs.OneAfterAnother.{stops}
use Rattle.kt_node_text.proofs.ListReads.{none_read, next_read, more_read, all_read}
use Rattle.kt_node_text.proofs.numbers.Numbers.list.Goals as goal

abbrev own : List ℕ → List ℕ
own ns = ns

abbrev IsAny : ℕ → Type 0
IsAny n = Unit {0}

any : (xs : List ℕ) → All IsAny xs
any xs = λ k d b. tt

pub loop-init : goal.loop-init
loop-init c = λ xs after e. none_read own xs after _ _ c.new-list.ensures.items (c.in_ok-count.ensures.read (length xs) (xs ++ after) (as_many xs after) e).1

pub returns-in_err-number-clause-read : goal.returns-in_err-number-clause-read
returns-in_err-number-clause-read c = λ xs after e.
    let count : c.in_ok-count.count ≡ length xs = (c.in_ok-count.ensures.read (length xs) (xs ++ after) (as_many xs after) e).0 in
    let n = next_read IsAny own xs [] after _ _ _ (c.loop.invariant xs after e) (omega (arith, c.loop-test.true)) (any xs) in
    stops _ _ _ _ _ c.from_residual-in_err-number.ensures.1 (c.in_err-number.ensures.read n.0 (drop (c.loop.counter + 1) xs ++ after) n.1.left)

pub loop-preserved : goal.loop-preserved
loop-preserved c = λ xs after e.
    let count : c.in_ok-count.count ≡ length xs = (c.in_ok-count.ensures.read (length xs) (xs ++ after) (as_many xs after) e).0 in
    let n = next_read IsAny own xs [] after _ _ _ (c.loop.invariant xs after e) (omega (arith, c.loop-test.true)) (any xs) in
    let x = c.in_ok-number.ensures.read n.0 (drop (c.loop.counter + 1) xs ++ after) n.1.left in
    more_read IsAny own xs [] after _ _ _ _ _ n.0 _ (c.loop.invariant xs after e) n.1 c.in_ok-push.ensures.items x.0 x.1

pub returns-clause-read : goal.returns-clause-read
returns-clause-read c = λ xs after e.
    let count : c.in_ok-count.count ≡ length xs = (c.in_ok-count.ensures.read (length xs) (xs ++ after) (as_many xs after) e).0 in
    all_read own xs [] after _ _ _ (c.loop.invariant xs after e) (omega (arith, c.loop-test.false)) refl

pub returns-in_err-count-clause-read : goal.returns-in_err-count-clause-read
returns-in_err-count-clause-read c = λ xs after e.
    stops _ _ _ _ _ c.from_residual.ensures.1 (c.in_err-count.ensures.read (length xs) (xs ++ after) (as_many xs after) e)
