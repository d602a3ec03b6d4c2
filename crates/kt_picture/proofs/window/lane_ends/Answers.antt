use Rattle.std.proofs.Common.{◌≡◌, ◌∙◌, ◌++◌, ◌∷◌, [], ℕ, ap, arith, map, sym}
use Rattle.std.specs.List.{range_with_len}
use Rattle.kt_picture.specs.KnownAtRow.{stretch_from}
use Rattle.kt_picture.proofs.LaneFacts.{ends_more}
use Rattle.kt_picture.proofs.window.lane_ends.Goals as goal

pub loop-number-preserved : goal.loop-number-preserved
loop-number-preserved c =
    let n = c.loop-number.number in
    record {
      items = λ s rows h. c.in_ok-push_item.ensures ∙ (λ j. c.loop-number.invariant.items s rows h j ++ (c.stretch.ensures s rows h ∙ ap (stretch_from s) c.nth.ensures) j ∷ []) ∙ sym (ends_more (stretch_from s) n);
      low = omega (arith, c.loop-number-test.true);
    }

pub returns : goal.returns
returns c = λ s rows h.
    let all : c.loop-number.number ≡ 64 = omega (arith, c.loop-number.invariant.low) in
    c.loop-number.invariant.items s rows h ∙ ap (λ (n : ℕ). map (stretch_from s) (range_with_len 0 n)) all
