-- The program says yes exactly where all passes.
use Rattle.std.proofs.Common.{◌≡◌, ℕ, true, Option, Some, None, List, refl, sym, subst}
use Rattle.std.specs.Prelude.{◌↔◌, IfSome}
use Rattle.kt_spacetime.specs.declared.event.Event.{Event}
use Rattle.kt_log_text.specs.Texts.{IsLogText}
use Rattle.kt_log_text.proofs.TextFacts.{one_log}
use Rattle.kt_spacetime.specs.declared.certificate.Certificate.{Certificate}
use Rattle.kt_chain.specs.Texts.{IsCertText}
use Rattle.kt_chain.proofs.TextFacts.{one_text}
use Rattle.kt_spacetime.specs.declared.verdict.Verdict.{Verdict}
use Rattle.kt_spacetime.specs.declared.verdict.Verdict.TheVariants.{Yes, No}
use Rattle.kt_meaning.specs.Answers.{IsCheckerAnswer}
use Rattle.kt_meaning.specs.Passing.{IsPassed}
use Rattle.kt_meaning.proofs.Answering.{passed_of, yes_of}
use Rattle.kt_program.specs.Stored.{BytesTold, IsVerdictOf, IsExact, is_yes, certificates_told, records_told}

-- the records of a text
abbrev Records : Type 0
Records = List (List (List ℕ))

yes_is : (v : Verdict) → is_yes v ≡ true → v ≡ Yes
yes_is Yes e = refl
yes_is (No inst row why) e = cc e

is_yes_of : (v : Verdict) → v ≡ Yes → is_yes v ≡ true
is_yes_of v e = subst (λ (w : Verdict). is_yes w ≡ true) (sym e) refl

passes_or_not : (rows : List Event) (certificates : List Certificate) (v : Verdict) → IsCheckerAnswer rows certificates v → (is_yes v ≡ true) ↔ IsPassed rows certificates
passes_or_not rows certificates v answer = (λ e. passed_of rows certificates v answer (yes_is v e), λ h. is_yes_of v (yes_of rows certificates v answer h))

exact_certificates : (left : Option Records) (rows : List Event) (certificates : List Certificate) (v : Verdict) → IfSome left (λ text. IsCertText text certificates) → IsCheckerAnswer rows certificates v
    → IfSome left (λ text. (others : List Certificate) → IsCertText text others → (is_yes v ≡ true) ↔ IsPassed rows others)
exact_certificates None rows certificates v says answer = tt
exact_certificates (Some text) rows certificates v says answer = λ others also.
    subst (λ (same : List Certificate). (is_yes v ≡ true) ↔ IsPassed rows same) (one_text text certificates others says also) (passes_or_not rows certificates v answer)

exact_rows : (left certs_left : Option Records) (rows : List Event) (certificates : List Certificate) (v : Verdict) → IfSome left (λ text. IsLogText text rows)
    → IfSome certs_left (λ text. IsCertText text certificates) → IsCheckerAnswer rows certificates v
    → IfSome left (λ text. (others : List Event) → IsLogText text others → IfSome certs_left (λ also. (listed : List Certificate) → IsCertText also listed → (is_yes v ≡ true) ↔ IsPassed others listed))
exact_rows None certs_left rows certificates v says listed answer = tt
exact_rows (Some text) certs_left rows certificates v says listed answer = λ others also.
    subst (λ (same : List Event). IfSome certs_left (λ more. (list : List Certificate) → IsCertText more list → (is_yes v ≡ true) ↔ IsPassed same list)) (one_log text rows others says also)
    (exact_certificates certs_left rows certificates v listed answer)

-- the answer to what the bytes say is yes exactly where that passes
pub judged_exactly : (log cert : BytesTold) (v : Verdict) → IsVerdictOf log cert v → IsExact log cert (is_yes v)
judged_exactly log cert v judged =
    exact_rows (records_told log) (certificates_told cert) judged.answer.rows judged.certificates v judged.answer.says judged.certificates_said judged.answer.answer
