-- A test of an answer in the place of the answer.
use Rattle.std.proofs.Common.{◌≡◌, ◌↔◌, ℕ, Bool, IsTrue, List, Option, Some, None, IfSome}
use Rattle.kt_spacetime.specs.declared.event.Event.{Event}
use Rattle.kt_log_text.specs.Texts.{IsLogText}
use Rattle.kt_spacetime.specs.declared.certificate.Certificate.{Certificate}
use Rattle.kt_meaning.specs.Passing.{IsPassed}
use Rattle.kt_spacetime.specs.declared.verdict.Verdict.{Verdict}
use Rattle.kt_spacetime.specs.declared.verdict.Verdict.TheVariants.{Yes}

pub passes_if_yes : (left : Option (List (List (List ℕ)))) (certificates : List Certificate) (verdict : Verdict) (answer : Bool) → (IsTrue answer ↔ (verdict ≡ Yes))
    → IfSome left (λ records. (rows : List Event) → IsLogText records rows → (verdict ≡ Yes) ↔ IsPassed rows certificates)
    → IfSome left (λ records. (rows : List Event) → IsLogText records rows → IsTrue answer ↔ IsPassed rows certificates)
passes_if_yes None certificates verdict answer same passed = tt
passes_if_yes (Some records) certificates verdict answer same passed = λ rows says.
    (λ is. (passed rows says).0 (same.0 is), λ passes. same.1 ((passed rows says).1 passes))
