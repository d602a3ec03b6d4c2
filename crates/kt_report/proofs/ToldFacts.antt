-- What is told of rows, after one more row.
use Rattle.std.proofs.Common.{arith, ◌≡◌, ◌∙◌, ◌<◌, ◌≤◌, ◌+◌, ℕ, Bool, true, false, List, [], ◌++◌, length, take, get_or, refl, sym, ap}
use Rattle.std.specs.Prelude.{if◌then◌else◌, count_by}
use Rattle.std.proofs.lemmas.List.Sums.{count_by_more_yes, count_by_more_no}
use Rattle.kt_base.specs.Numbers.{IsInstNo}
use Rattle.kt_spacetime.specs.declared.event.Event.{Event}
use Rattle.kt_text.proofs.PieceFacts.{items_more}
use Rattle.kt_report.specs.Lines.{refusal_line}
use Rattle.kt_report.specs.Report.{is_drop}
use Rattle.kt_report.specs.Told.{Tells}
use Rattle.kt_report.specs.Unwilling.{UnwillingAnswer, answers_to, unwilling_in}
use Rattle.kt_report.specs.declared.told.Told.{Told}

-- a row drops one message at most
pub dropped_more : (old new i : ℕ) (row : Event) → new ≡ old + (if is_drop row then 1 else 0) → old ≤ i → new ≤ i + 1
dropped_more old new i row more few = go (is_drop row) more
  where
    go : (b : Bool) → new ≡ old + (if b then 1 else 0) → new ≤ i + 1
    go true e = omega (arith, e, few)
    go false e = omega (arith, e, few)

-- one more row
pub tells_more : (old new : Told) (rows : List Event) (i : ℕ) (row : Event) → i < length rows → get_or rows i row ≡ row → Tells old (take i rows)
    → ((inst : ℕ) → IsInstNo inst → answers_to new.unwilling inst ≡ answers_to old.unwilling inst ++ unwilling_in inst row)
    → new.dropped ≡ old.dropped + (if is_drop row then 1 else 0)
    → (new.refuses ≡ false → old.refuses ≡ false)
    → (new.refuses ≡ false → (names : List (List ℕ)) → refusal_line names row ≡ [])
    → Tells new (take (i + 1) rows)
tells_more old new rows i row within at h answers dropped before refused = record {
  unwilling = λ inst known.
      answers inst known ∙ ap (λ (x : List UnwillingAnswer). x ++ unwilling_in inst row) (h.unwilling inst known)
      ∙ sym (items_more (unwilling_in inst) rows i row within at);
  dropped = counted (is_drop row) refl dropped;
  refused = λ none names.
      items_more (refusal_line names) rows i row within at
      ∙ ap (λ (x : List ℕ). x ++ refusal_line names row) (h.refused (before none) names)
      ∙ refused none names;
}
  where
    counted : (b : Bool) → is_drop row ≡ b → new.dropped ≡ old.dropped + (if b then 1 else 0) → new.dropped ≡ count_by is_drop (take (i + 1) rows)
    counted true e more = omega (arith, more, h.dropped, count_by_more_yes is_drop rows i row within (ap is_drop at ∙ e))
    counted false e more = omega (arith, more, h.dropped, count_by_more_no is_drop rows i row within (ap is_drop at ∙ e))
