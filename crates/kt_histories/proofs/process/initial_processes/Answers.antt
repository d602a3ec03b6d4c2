use Rattle.std.proofs.Common.{ℕ, ◌+◌, ◌∷◌, [], length, ap, inl, inr, arith, ◌∙◌, length-append}
use Rattle.kt_meaning.proofs.Items.{get_push}
use Rattle.kt_histories.proofs.ProcessFacts.{shows_start}
use Rattle.kt_histories.proofs.process.initial_processes.Goals as goal

pub loop-number-preserved : goal.loop-number-preserved
loop-number-preserved c =
    let fresh = c.in_ok-new.ensures in
    record {
      count = ap length c.in_ok-push.ensures.items ∙ (length-append c.loop-number.processes.items (c.in_ok-new.field-0 ∷ []) ∙ ap (λ (n : ℕ). n + 1) c.loop-number.invariant.count);
      low = omega (arith, c.loop-number-test.true);
      each = λ p v e. elim (get_push _ _ p v (rw c.in_ok-push.ensures.items at e)) [
        | inl old ↦ c.loop-number.invariant.each p v old
        | inr new ↦ rw new.1 (shows_start _ p fresh.0 fresh.1 fresh.2 fresh.3 fresh.4)
      ];
    }
