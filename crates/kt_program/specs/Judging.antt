-- What the program answers to a stored log, by the certificates that are named or by those that it means.
use Rattle.std.specs.Prelude.{◌≡◌, Bool, true, false, Option, Some, None, List, [], ℕ}
use Rattle.std.specs.Io.KnownBytes.{Appends}
use Rattle.kt_spacetime.specs.declared.event.Event.{Event}
use Rattle.kt_spacetime.specs.declared.certificate.Certificate.{Certificate}
use Rattle.kt_spacetime.specs.declared.verdict.Verdict.{Verdict}
use Rattle.kt_meaning.specs.Answers.{IsCheckerAnswer}
use Rattle.kt_checker.specs.Streamed.{SaysRows}
use Rattle.kt_explain.specs.declared.explanation.Explanation.{Explanation}
use Rattle.kt_explain.specs.Told.{IsExplanation}
use Rattle.kt_explain.specs.Answers.{passes}
use Rattle.kt_explain.specs.Judging.{IsAnswerBy}
use Rattle.kt_explain.specs.declared.answer.Answer.{Answer}
use Rattle.kt_program.specs.declared.line.Judging.{Judging}
use Rattle.kt_program.specs.Names.{Name}
use Rattle.kt_program.specs.Stored.{BytesTold, SayCertificates, answer_text}

-- bytes say these rows and certificates
pub record Say (log cert : BytesTold) (rows : List Event) (certificates : List Certificate) : Type 0 where
  pub rows_said : SaysRows log rows
  pub certificates_said : SayCertificates cert certificates

-- files say these rows, and these certificates where a file is named for them
abbrev pub AreOfFiles : {F : Type 0} → (F → BytesTold) → Name → List Event → Option (List Certificate) → Type 0
AreOfFiles {F} told None rows named = (log : F) × SaysRows (told log) rows × (named ≡ None)
AreOfFiles {F} told (Some name) rows named =
    (log cert : F) × (list : List Certificate) × Say (told log) (told cert) rows list × (named ≡ Some list)

-- the answer to rows, and the lines below it: none, or what is told is so
pub record IsAnswered (rows : List Event) (named : Option (List Certificate)) (asked : Judging) (answer : Answer) (lines : List ℕ) : Type 0 where
  pub certificates : List Certificate
  pub verdict : Verdict
  pub checked : IsCheckerAnswer rows certificates verdict
  pub answered : IsAnswerBy rows named asked.at_rest certificates verdict answer
  pub explanation : Explanation
  pub told : asked.explains ≡ true → IsExplanation rows certificates verdict explanation
  pub untold : asked.explains ≡ false → lines ≡ []

-- the answer to what files say is written, which is a yes exactly where this is true
pub record AnswersFiles {F : Type 0} (told : F → BytesTold) (asked : Judging) (old new : BytesTold) (passed : Bool) : Type 0 where
  pub rows : List Event
  pub named : Option (List Certificate)
  pub said : AreOfFiles told asked.cert rows named
  pub answer : Answer
  pub lines : List ℕ
  pub answered : IsAnswered rows named asked answer lines
  pub yes : passed ≡ passes answer
  pub written : Appends old new (answer_text answer lines)
