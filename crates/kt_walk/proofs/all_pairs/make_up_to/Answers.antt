use Rattle.std.proofs.Common.{◌≡◌, ◌/◌, ◌%◌, List, length, length-append, [], ◌∷◌, arith, ap, ◌∙◌}
use Rattle.kt_walk.specs.Pairs.{PairState, new_pair_state, with_new}
use Rattle.kt_walk.proofs.NewPairs.{with_next}
use Rattle.kt_walk.proofs.all_pairs.make_up_to.Goals as goal

pub loop-number-preserved : goal.loop-number-preserved
loop-number-preserved c =
    let items = c.loop-number.pairs.items in
    let v = c.new.result in
    let receiver : c.nth-receiver.result ≡ length items / 64 = omega (arith, c.nth-receiver.ensures, c.loop-number.invariant.next) in
    let sender : c.nth-sender.result ≡ length items % 64 = omega (arith, c.nth-sender.ensures, c.loop-number.invariant.next) in
    record {
      same = ap with_new c.in_ok-push.ensures.items ∙ (with_next items v (omega (arith, c.loop-number.invariant.next, c.loop-number-test.true, c.requires)) (c.new.ensures ∙ (λ i. new_pair_state (receiver i) (sender i))) ∙ c.loop-number.invariant.same);
      next = omega (arith, ap (λ (l : List PairState). length l) c.in_ok-push.ensures.items, length-append items (v ∷ []), c.loop-number.invariant.next);
    }
