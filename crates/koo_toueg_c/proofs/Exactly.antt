-- A yes is answered exactly where all passes.
use Rattle.std.proofs.Common.{◌≡◌, ℕ, List, refl, sym, subst}
use Rattle.std.specs.Prelude.{◌↔◌}
use Rattle.kt_spacetime.specs.declared.event.Event.{Event}
use Rattle.kt_log_text.proofs.TextFacts.{one_log}
use Rattle.kt_spacetime.specs.declared.certificate.Certificate.{Certificate}
use Rattle.kt_chain.proofs.TextFacts.{one_text}
use Rattle.kt_spacetime.specs.declared.verdict.Verdict.{Verdict}
use Rattle.kt_spacetime.specs.declared.verdict.Verdict.TheVariants.{Yes, No}
use Rattle.kt_meaning.specs.Answers.{IsCheckerAnswer}
use Rattle.kt_meaning.specs.Passing.{IsPassed}
use Rattle.kt_meaning.proofs.Answering.{passed_of, yes_of}
use Rattle.kt_explain.specs.Answers.{passes}
use Rattle.kt_explain.specs.declared.answer.Answer.TheVariants.{Checked}
use Rattle.koo_toueg_c.specs.Numbers.{answer_status}
use Rattle.koo_toueg_c.specs.Stored.{IsVerdictOf, SayCertificates, SaysLog, certificates_in, rows_in}

-- the status of an answer of the checker
abbrev status_of : Verdict → ℕ
status_of v = answer_status (passes (Checked v))

yes_is : (v : Verdict) → status_of v ≡ 0 → v ≡ Yes
yes_is Yes e = refl
yes_is (No inst row why) e = cc e

status_is : (v : Verdict) → v ≡ Yes → status_of v ≡ 0
status_is v e = subst (λ (w : Verdict). status_of w ≡ 0) (sym e) refl

passes_or_not : (rows : List Event) (list : List Certificate) (v : Verdict) → IsCheckerAnswer rows list v → (status_of v ≡ 0) ↔ IsPassed rows list
passes_or_not rows list v answer = (λ e. passed_of rows list v answer (yes_is v e), λ h. status_is v (yes_of rows list v answer h))

-- the status of the checker's answer to what texts say is 0 exactly where that passes
pub exact : (text also : List ℕ) (v : Verdict) (status : ℕ) → IsVerdictOf text also v → status ≡ answer_status (passes (Checked v))
    → (rows : List Event) (list : List Certificate) → SaysLog text rows → SayCertificates also list → (status ≡ 0) ↔ IsPassed rows list
exact text also v status judged ends rows list says listed =
    subst (λ (s : ℕ). (s ≡ 0) ↔ IsPassed rows list) (sym ends)
    (subst (λ (same : List Event). (status_of v ≡ 0) ↔ IsPassed same list) (one_log (rows_in text) judged.answer.rows rows judged.answer.says says)
    (subst (λ (same : List Certificate). (status_of v ≡ 0) ↔ IsPassed judged.answer.rows same) (one_text (certificates_in also) judged.certificates list judged.said listed)
    (passes_or_not judged.answer.rows judged.certificates v judged.answer.answer)))
