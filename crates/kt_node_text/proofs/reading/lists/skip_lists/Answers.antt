use Rattle.std.proofs.Common.{arith}
use Rattle.kt_node_text.proofs.OneAfterAnother.{stops}
use Rattle.kt_node_text.proofs.GatheredReads.{list_form, next_list, none_passed, more_passed, all_passed}
use Rattle.kt_node_text.proofs.reading.lists.skip_lists.Goals as goal

pub loop-number-init : goal.loop-number-init
loop-number-init c = λ lists after range e. none_passed lists _ after _ e

pub returns-in_err-skip_items : goal.returns-in_err-skip_items
returns-in_err-skip_items c = λ lists after range e.
    let n = c.loop-number._number in
    let t = next_list (list_form lists) c.args.size n after _ (omega (arith, c.loop-number-test.true)) (c.loop-number.invariant lists after range e) in
    stops _ _ _ _ _ c.from_residual.ensures.1 (c.in_err-skip_items.ensures.read (lists n) t.0 (range n (omega (arith, c.loop-number-test.true))) t.1)

pub loop-number-preserved : goal.loop-number-preserved
loop-number-preserved c = λ lists after range e.
    let n = c.loop-number._number in
    let t = next_list (list_form lists) c.args.size n after _ (omega (arith, c.loop-number-test.true)) (c.loop-number.invariant lists after range e) in
    let made = c.in_ok-skip_items.ensures.read (lists n) t.0 (range n (omega (arith, c.loop-number-test.true))) t.1 in
    more_passed lists c.args.size after n t.0 _ t.2 made.1

pub returns : goal.returns
returns c = λ lists after range e.
    let left = all_passed lists c.args.size after _ _ (c.loop-number.invariant lists after range e) (omega (arith, c.loop-number-test.false)) in
    (left, left)
