use Rattle.std.proofs.Common.{arith, ◌≡◌, ◌∙◌, ◌+◌, ◌-◌, ℕ, sym, ap, cond, count_by, Bool, true, false}
use Rattle.std.specs.Prelude.{slice_get}
use Rattle.std.specs.List.{range_with_len}
use Rattle.kt_meaning.specs.Past.{past}
use Rattle.kt_rules.proofs.Replayed.{row_read}
use Rattle.kt_walk.specs.WalkOf.{WalkOf}
use Rattle.kt_report.specs.Exact.{is_lost}
use Rattle.kt_report.proofs.MessageFacts.{count-more}
use Rattle.kt_report.proofs.losses.lost_after.Goals as goal
use Rattle.kt_report.proofs.losses.lost_after.Goals.{then-is_lost, else-is_lost}

pub loop-place-preserved : goal.loop-place-preserved
loop-place-preserved c =
    let rows = c.args.rows.now in
    let i = c.loop-place.place in
    let test : ℕ → Bool = λ msg. is_lost (past rows) msg (slice_get rows (msg - 1)) in
    let place : i + 1 - 1 ≡ i = omega arith in
    let there = ap (slice_get rows) place ∙ row_read rows i c.index-rows-place.result c.loop-place-test.true c.index-rows-place.is in
    let next : 1 + i ≡ i + 1 = omega arith in
    let more : (b : Bool) → c.is_lost.result ≡ b → WalkOf c.args.walk.now rows → count_by test (range_with_len 1 (i + 1)) ≡ count_by test (range_with_len 1 i) + cond b 1 0 =
    λ b is h. count-more test 1 i (i + 1) next
    ∙ ap (λ (b : Bool). count_by test (range_with_len 1 i) + cond b 1 0) (ap (is_lost (past rows) (i + 1)) there ∙ sym (c.is_lost.ensures rows h) ∙ is) in
    elim c.if-is_lost.branch [
      | then-is_lost w ↦ record {
        few = omega arith;
        count = λ h. omega (arith, w.lost-is, c.loop-place.invariant.count h, more true w.if-is_lost.true h);
      }
      | else-is_lost w ↦ record {
        few = omega arith;
        count = λ h. omega (arith, w.lost-is, c.loop-place.invariant.count h, more false w.if-is_lost.false h);
      }
    ]
