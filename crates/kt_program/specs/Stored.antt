-- What the program answers to a stored log with its certificates.
use Rattle.std.specs.Prelude.{◌≡◌, ◌≢◌, ◌↔◌, ℕ, Bool, true, false, Option, option_map, List, [], ◌∷◌, ◌++◌, IfSome}
use Rattle.std.specs.Io.KnownBytes.{Appends}
use Rattle.kt_spacetime.specs.declared.event.Event.{Event}
use Rattle.kt_log_text.specs.declared.fault.LogFault.{LogFault}
use Rattle.kt_log_text.specs.declared.fault.LogFault.TheVariants as log
use Rattle.kt_text.specs.Records.{text_records}
use Rattle.kt_log_text.specs.Reading.{rows_unread}
use Rattle.kt_log_text.specs.Texts as rows
use Rattle.kt_spacetime.specs.declared.certificate.Certificate.{Certificate}
use Rattle.kt_chain.specs.declared.fault.CertTextFault.{CertTextFault}
use Rattle.kt_chain.specs.declared.fault.CertTextFault.TheVariants as cert
use Rattle.kt_chain.specs.Texts as certs
use Rattle.kt_spacetime.specs.declared.verdict.Verdict.{Verdict}
use Rattle.kt_spacetime.specs.declared.verdict.Verdict.TheVariants.{Yes, No}
use Rattle.kt_meaning.specs.Passing.{IsPassed}
use Rattle.kt_checker.specs.Streamed.{IsAnswerOf, SaysRows}
use Rattle.kt_spacetime.specs.Verdicts.{verdict_words}
use Rattle.kt_explain.specs.Answers.{answer_words}
use Rattle.kt_explain.specs.declared.answer.Answer.{Answer}
use Rattle.kt_program.specs.declared.fault.AppFault.{AppFault}
use Rattle.kt_program.specs.declared.fault.AppFault.TheVariants as app

-- the bytes that a reader tells, where it does
abbrev pub BytesTold : Type 0
BytesTold = Option (List ℕ)

-- the records of such bytes, of a log
abbrev pub records_told : BytesTold → Option (List (List (List ℕ)))
records_told bytes = (rows_unread bytes).left

-- those of certificates
abbrev pub certificates_told : BytesTold → Option (List (List (List ℕ)))
certificates_told bytes = option_map (text_records certs.certificate_width) bytes

-- the bytes of a list of certificates say these
abbrev pub SayCertificates : BytesTold → List Certificate → Type 0
SayCertificates bytes certificates = IfSome (certificates_told bytes) (λ text. certs.IsCertText text certificates)

-- whether an answer of the checker is a yes
abbrev pub is_yes : Verdict → Bool
is_yes Yes = true
is_yes (No inst row why) = false

-- the checker's answer to the rows and the certificates that the bytes say; a yes means that they are sound
pub record IsVerdictOf (log cert : BytesTold) (verdict : Verdict) : Type 0 where
  pub certificates : List Certificate
  pub certificates_said : SayCertificates cert certificates
  pub answer : IsAnswerOf log certificates verdict

-- it is true exactly where all passes of the rows and the certificates that the bytes say, where both are told
abbrev pub IsExact : BytesTold → BytesTold → Bool → Type 0
IsExact log cert passed =
    IfSome (records_told log) (λ text. (read : List Event) → rows.IsLogText text read
    → IfSome (certificates_told cert) (λ also. (certificates : List Certificate) → certs.IsCertText also certificates → (passed ≡ true) ↔ IsPassed read certificates))

-- the line of an answer, and the lines below it
abbrev pub answer_text : Answer → List ℕ → List ℕ
answer_text answer lines = answer_words answer ++ 10 ∷ lines

-- the line of an answer of the checker
abbrev pub verdict_line : Verdict → List ℕ
verdict_line verdict = verdict_words verdict ++ 10 ∷ []

-- the line of the checker's answer to the bytes of two files, a log's and its certificates', which is a yes exactly where this is
-- true
pub record JudgesFiles {F : Type 0} (told : F → BytesTold) (old new : BytesTold) (passed : Bool) : Type 0 where
  pub log : F
  pub cert : F
  pub verdict : Verdict
  pub answer : IsVerdictOf (told log) (told cert) verdict
  pub yes : passed ≡ is_yes verdict
  pub written : Appends old new (verdict_line verdict)

-- what is wrong where the program does not answer: the first fault of the log, or that of the certificates of a log
-- that was read; what could be written was read; nothing is said of want of memory
abbrev pub IsRefusal : BytesTold → BytesTold → AppFault → Type 0
IsRefusal of_rows of_certs (app.Log fault) = (fault ≢ log.Memory) × IfSome (records_told of_rows) (λ text. rows.IsFirstLogFault text fault)
IsRefusal of_rows of_certs (app.Cert fault) = (fault ≢ cert.Memory) × IfSome (certificates_told of_certs) (λ text. certs.IsFirstCertificateFault text fault) × (read : List Event) × SaysRows of_rows read
IsRefusal of_rows of_certs app.Write = (verdict : Verdict) × IsVerdictOf of_rows of_certs verdict
IsRefusal of_rows of_certs app.Memory = Unit {0}
IsRefusal of_rows of_certs (app.Run fault) = ⊥
IsRefusal of_rows of_certs (app.Live fault) = ⊥
IsRefusal of_rows of_certs (app.Uncertified fault) = ⊥
IsRefusal of_rows of_certs (app.Unfit why) = ⊥
IsRefusal of_rows of_certs app.RecordTooLong = ⊥
IsRefusal of_rows of_certs (app.Picture why) = ⊥
IsRefusal of_rows of_certs (app.Merge fault) = ⊥

-- a fault of a log, as the program answers it
abbrev pub of_log : LogFault → AppFault
of_log log.Memory = app.Memory
of_log fault = app.Log fault

-- a fault of a list of certificates, as the program answers it
abbrev pub of_cert : CertTextFault → AppFault
of_cert cert.Memory = app.Memory
of_cert fault = app.Cert fault
