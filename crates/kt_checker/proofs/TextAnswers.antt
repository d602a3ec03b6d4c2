-- Answers to the rows that a text says.
use Rattle.std.proofs.Common.{◌≡◌, ℕ, Option, Some, None, List, subst}
use Rattle.std.specs.Prelude.{◌↔◌, IfSome}
use Rattle.kt_spacetime.specs.declared.event.Event.{Event}
use Rattle.kt_log_text.specs.Texts.{IsLogText}
use Rattle.kt_log_text.proofs.TextFacts.{one_log}
use Rattle.kt_spacetime.specs.declared.certificate.Certificate.{Certificate}
use Rattle.kt_spacetime.specs.declared.verdict.Verdict.{Verdict}
use Rattle.kt_spacetime.specs.declared.verdict.Verdict.TheVariants.{Yes}
use Rattle.kt_meaning.specs.Passing.{IsPassed}
use Rattle.kt_meaning.specs.Answers.{IsCheckerAnswer}
use Rattle.kt_meaning.proofs.Answering.{passed_of, yes_of}

-- of the rows that a text says, and of no others, an answer is yes exactly where all passes
pub passed_exactly : (left : Option (List (List (List ℕ)))) (certificates : List Certificate) (v : Verdict) (rows : List Event) → IfSome left (λ text. IsLogText text rows) → IsCheckerAnswer rows certificates v
    → IfSome left (λ text. (others : List Event) → IsLogText text others → (v ≡ Yes) ↔ IsPassed others certificates)
passed_exactly None certificates v rows says answer = tt
passed_exactly (Some text) certificates v rows says answer = λ others also.
    subst (λ (same : List Event). (v ≡ Yes) ↔ IsPassed same certificates) (one_log text rows others says also) (λ e. passed_of rows certificates v answer e, λ h. yes_of rows certificates v answer h)
