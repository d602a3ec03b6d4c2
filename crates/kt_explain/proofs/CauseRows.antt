-- What a no for a cause says of the row that decides the instance.
use Rattle.std.specs.Prelude.{Bool, true, false}
use Rattle.std.proofs.Common.{◌≡◌, ℕ, suc, ◌+◌, Some, None, List, refl, sym, ap, ◌∙◌, subst, add-one}
use Rattle.kt_spacetime.specs.declared.event.Event.{Event}
use Rattle.kt_spacetime.specs.declared.event.Event.TheVariants.{Decided}
use Rattle.kt_meaning.specs.Messages.{row_at}
use Rattle.kt_meaning.proofs.Lists.{any_at, any_from}
use Rattle.kt_meaning.proofs.Items.{some_same}
use Rattle.kt_spacetime.specs.declared.certificate.Certificate.{Certificate}
use Rattle.kt_spacetime.specs.declared.verdict.Verdict.TheVariants.{No}
use Rattle.kt_spacetime.specs.declared.verdict.Why.TheVariants as why
use Rattle.kt_meaning.specs.Unwilling.{is_unwilling, has_unwilling}
use Rattle.kt_meaning.specs.Answers.{IsCheckerAnswer}
use Rattle.kt_histories.specs.Finding.{HasNoRow, IsFirstRow}
use Rattle.kt_explain.specs.Told.{HasDecided}
use Rattle.kt_explain.proofs.Faults.{certificate_fault, none_some}

-- it comes with a row
pub cause_row : (rows : List Event) (certificates : List Certificate) (k : ℕ) → IsCheckerAnswer rows certificates (No (Some k) None why.Cause) → ⊥
cause_row rows certificates k a =
    let h = certificate_fault rows certificates k None why.Cause (λ e. cc) (λ e. cc) a in
    none_some (h.place + 1) h.row_is

-- the row commits the instance exactly where a process was unwilling
decided_so : (rows : List Event) (certificates : List Certificate) (k r : ℕ) → IsCheckerAnswer rows certificates (No (Some k) (Some r) why.Cause) → HasDecided rows r k (has_unwilling rows k)
decided_so rows certificates k r a =
    let h = certificate_fault rows certificates k (Some r) why.Cause (λ e. cc) (λ e. cc) a in
    let number : r ≡ suc h.place = some_same h.row_is ∙ add-one h.place in
    let commit : h.certificate.commit ≡ has_unwilling rows k = sym h.wrong ∙ ap (has_unwilling rows) (sym h.of_instance) in
    (h.in_log.process, ap (row_at rows) number ∙ (h.in_log.decided ∙ (λ i. Some (Decided h.in_log.process (sym h.of_instance i) (commit i)))))

pub decided_willing : (rows : List Event) (certificates : List Certificate) (k r : ℕ) → IsCheckerAnswer rows certificates (No (Some k) (Some r) why.Cause) → HasNoRow (is_unwilling k) rows → HasDecided rows r k false
decided_willing rows certificates k r a none = subst (HasDecided rows r k) (never (has_unwilling rows k) refl) (decided_so rows certificates k r a)
  where
    never : (b : Bool) → has_unwilling rows k ≡ b → has_unwilling rows k ≡ false
    never false is = is
    never true is =
        let there = any_at (is_unwilling k) rows is in
        absurd (none there.0 there.1 there.2 there.3)

pub decided_unwilling : (rows : List Event) (certificates : List Certificate) (k r n : ℕ) (row : Event) → IsCheckerAnswer rows certificates (No (Some k) (Some r) why.Cause) → IsFirstRow (is_unwilling k) rows n row
    → HasDecided rows r k true
decided_unwilling rows certificates k r n row a first =
    subst (HasDecided rows r k) (any_from (is_unwilling k) rows first.place row first.row_is first.passes) (decided_so rows certificates k r a)
