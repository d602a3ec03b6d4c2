-- The checker's answer to the bytes of a log.
use Rattle.std.specs.Prelude.{◌≡◌, ℕ, Option, List, IfSome}
use Rattle.kt_spacetime.specs.declared.event.Event.{Event}
use Rattle.kt_log_text.specs.Reading.{rows_unread}
use Rattle.kt_log_text.specs.Texts.{IsLogText}
use Rattle.kt_spacetime.specs.declared.certificate.Certificate.{Certificate}
use Rattle.kt_spacetime.specs.declared.verdict.Verdict.{Verdict}
use Rattle.kt_spacetime.specs.declared.verdict.Verdict.TheVariants.{Yes}
use Rattle.kt_meaning.specs.Answers.{IsCheckerAnswer}
use Rattle.kt_meaning.specs.Soundness.{IsSound}

-- the bytes that a reader tells, where it does, say these rows
abbrev pub SaysRows : Option (List ℕ) → List Event → Type 0
SaysRows bytes rows = IfSome (rows_unread bytes).left (λ text. IsLogText text rows)

-- the checker's answer to the rows that the bytes say; a yes means that they and the certificates are sound
pub record IsAnswerOf (bytes : Option (List ℕ)) (certificates : List Certificate) (verdict : Verdict) : Type 0 where
  pub rows : List Event
  pub says : SaysRows bytes rows
  pub answer : IsCheckerAnswer rows certificates verdict
  pub sound : verdict ≡ Yes → IsSound rows certificates
