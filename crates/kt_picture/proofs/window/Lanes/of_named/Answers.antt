use Rattle.std.proofs.Common.{◌≡◌, ◌≤◌, ◌+◌, ◌∙◌, ◌++◌, ◌∷◌, [], ℕ, List, ap, sym, cond, arith, length, subst, filter}
use Rattle.std.proofs.lemmas.List.{append-nil}
use Rattle.std.specs.List.{range_with_len}
use Rattle.kt_base.specs.Sets.{has}
use Rattle.kt_picture.proofs.LaneFacts.{lanes_more, few_more}
use Rattle.kt_picture.proofs.window.Lanes.of_named.Goals.{then-has+in_ok-push_item, else-has}
use Rattle.kt_picture.proofs.window.Lanes.of_named.Goals as goal

pub loop-number-preserved : goal.loop-number-preserved
loop-number-preserved c =
    let n = c.loop-number.number in
    let old = c.loop-number.processes.items in
    let p = c.nth-p.result in
    let same : c.if-has.processes.items ≡ old ++ cond c.has.result (p ∷ []) [] = elim c.if-has.branch [
      | then-has+in_ok-push_item w ↦ ap (λ (v : _). v.items) w.processes-is ∙ w.in_ok-push_item.ensures ∙ (λ j. old ++ cond (sym w.if-has.true j) (p ∷ []) [])
      | else-has w ↦ ap (λ (v : _). v.items) w.processes-is ∙ sym (append-nil old) ∙ (λ j. old ++ cond (sym w.if-has.false j) (p ∷ []) [])
    ] in
    let few = few_more c.has.result old p n c.loop-number.invariant.few in
    let tested = c.has.ensures ∙ ap (has c.args.named) c.nth-p.ensures in
    record {
      items = same ∙ (λ j. c.loop-number.invariant.items j ++ cond (tested j) (c.nth-p.ensures j ∷ []) []) ∙ sym (lanes_more (has c.args.named) n);
      few = subst (λ (x : List ℕ). length x ≤ n + 1) (sym same) few;
      low = omega (arith, c.loop-number-test.true);
    }

pub returns : goal.returns
returns c =
    let all : c.loop-number.number ≡ 64 = omega (arith, c.loop-number.invariant.low) in
    c.loop-number.invariant.items ∙ ap (λ (n : ℕ). filter (has c.args.named) (range_with_len 0 n)) all
