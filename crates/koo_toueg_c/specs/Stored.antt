-- What is made of stored texts, which are bytes in memory.
use Rattle.std.specs.Prelude.{◌≡◌, ◌≢◌, ℕ, if◌then◌else◌, ◌==◌, Option, Some, None, List, [], ◌∷◌, ◌++◌, false}
use Rattle.kt_meaning.specs.Fitness.{IsUnfit}
use Rattle.kt_certify.specs.Streamed.{AreCertified, AreRowsOf}
use Rattle.kt_certify.specs.declared.fault.StreamFault.{StreamFault}
use Rattle.kt_certify.specs.declared.fault.StreamFault.TheVariants as stream
use Rattle.kt_spacetime.specs.declared.unfit.Unfit.{Unfit}
use Rattle.kt_chain.specs.Spelling.{records_of}
use Rattle.kt_chain.specs.Texts as certs
use Rattle.kt_spacetime.specs.declared.certificate.Certificate.{Certificate}
use Rattle.kt_chain.specs.declared.fault.CertTextFault.TheVariants as cert
use Rattle.kt_meaning.specs.Answers.{IsCheckerAnswer}
use Rattle.kt_checker.specs.Streamed.{IsAnswerOf}
use Rattle.kt_spacetime.specs.Verdicts.{verdict_words}
use Rattle.kt_spacetime.specs.declared.verdict.Verdict.{Verdict}
use Rattle.kt_draw.specs.Drawn.{IsCertifiedPicture, IsNoPicture}
use Rattle.kt_draw.specs.declared.span.Span.{Span}
use Rattle.kt_explain.specs.Answers.{passes}
use Rattle.kt_explain.specs.Judging.{IsAnswerBy}
use Rattle.kt_explain.specs.declared.answer.Answer.{Answer}
use Rattle.kt_explain.specs.declared.answer.Answer.TheVariants.{Checked}
use Rattle.kt_log_text.specs.Texts as rows
use Rattle.kt_log_text.specs.declared.fault.LogFault.TheVariants as log
use Rattle.kt_spacetime.specs.declared.event.Event.{Event}
use Rattle.kt_text.specs.Records.{text_records}
use Rattle.kt_text.specs.Writing.{text_of}
use Rattle.koo_toueg_c.specs.Numbers.{answer_status}
use Rattle.koo_toueg_c.specs.declared.fault.Fault.{Fault}
use Rattle.koo_toueg_c.specs.declared.fault.Fault.TheVariants.{Log, Certificates, Picture, Memory}

-- the records of a log's text
abbrev pub rows_in : List ℕ → List (List (List ℕ))
rows_in text = text_records rows.row_width text

-- those of a text of certificates
abbrev pub certificates_in : List ℕ → List (List (List ℕ))
certificates_in text = text_records certs.certificate_width text

-- a text says these rows
abbrev pub SaysLog : List ℕ → List Event → Type 0
SaysLog text read = rows.IsLogText (rows_in text) read

-- a text says these certificates
abbrev pub SayCertificates : List ℕ → List Certificate → Type 0
SayCertificates text list = certs.IsCertText (certificates_in text) list

-- why a log is not read: its first fault; nothing is said of want of memory
abbrev pub IsRefusalOfLog : List ℕ → Fault → Type 0
IsRefusalOfLog text (Log fault) = (fault ≢ log.Memory) × rows.IsFirstLogFault (rows_in text) fault
IsRefusalOfLog text (Certificates fault) = ⊥
IsRefusalOfLog text (Picture w) = ⊥
IsRefusalOfLog text Memory = Unit {0}

-- the same of certificates
abbrev pub IsRefusalOfCertificates : List ℕ → Fault → Type 0
IsRefusalOfCertificates text (Log fault) = ⊥
IsRefusalOfCertificates text (Certificates fault) = (fault ≢ cert.Memory) × certs.IsFirstCertificateFault (certificates_in text) fault
IsRefusalOfCertificates text (Picture w) = ⊥
IsRefusalOfCertificates text Memory = Unit {0}

-- why a log and its certificates are not read: the first fault of the log, or that of the certificates of a log that is read
abbrev pub IsRefusal : List ℕ → List ℕ → Fault → Type 0
IsRefusal text also (Log fault) = IsRefusalOfLog text (Log fault)
IsRefusal text also (Certificates fault) = IsRefusalOfCertificates also (Certificates fault) × (read : List Event) × SaysLog text read
IsRefusal text also (Picture w) = ⊥
IsRefusal text also Memory = Unit {0}

-- the checker's answer to the rows and the certificates that texts say; a yes means that they are sound
pub record IsVerdictOf (text also : List ℕ) (verdict : Verdict) : Type 0 where
  pub certificates : List Certificate
  pub said : SayCertificates also certificates
  pub answer : IsAnswerOf (Some text) certificates verdict

-- the answer to the rows that a text says, by the certificates that they mean
pub record IsAnswerAlone (text : List ℕ) (answer : Answer) : Type 0 where
  pub read : List Event
  pub said : SaysLog text read
  pub certificates : List Certificate
  pub verdict : Verdict
  pub checked : IsCheckerAnswer read certificates verdict
  pub answered : IsAnswerBy read None false certificates verdict answer

-- a text is that of the certificates of the rows that another one says, which are fit
pub record IsTextOfCertificates (text made : List ℕ) : Type 0 where
  pub certificates : List Certificate
  pub certified : AreCertified (Some text) certificates
  pub spelled : made ≡ text_of (records_of certificates)

-- why the rows that a text says have no certificates
abbrev pub IsUnfitText : List ℕ → Unfit → Type 0
IsUnfitText text w = (read : List Event) × AreRowsOf (Some text) read × IsUnfit read w

-- why a text is not certified: the first fault of a log, or why it has no certificates; nothing is said of want of memory
abbrev pub IsUncertified : List ℕ → StreamFault → Type 0
IsUncertified text (stream.Log log.Memory) = Unit {0}
IsUncertified text (stream.Log fault) = rows.IsFirstLogFault (rows_in text) fault
IsUncertified text (stream.Unfit w) = IsUnfitText text w

-- a text begins with the line of the checker's answer to rows and certificates, and this is the status of that answer
pub record AreExplainedRows (read : List Event) (certificates : List Certificate) (status : ℕ) (made : List ℕ) : Type 0 where
  pub verdict : Verdict
  pub checked : IsCheckerAnswer read certificates verdict
  pub ends : status ≡ answer_status (passes (Checked verdict))
  pub lines : List ℕ
  pub begins : made ≡ verdict_words verdict ++ 10 ∷ lines

-- the same of the rows and the certificates that texts say
pub record AreExplained (text also : List ℕ) (status : ℕ) (made : List ℕ) : Type 0 where
  pub read : List Event
  pub rows_said : SaysLog text read
  pub certificates : List Certificate
  pub certificates_said : SayCertificates also certificates
  pub explained : AreExplainedRows read certificates status made

-- a row that is asked for; none by 0
abbrev pub row_asked : ℕ → Option ℕ
row_asked row = if row == 0 then None else Some row

-- the rows that are asked for
abbrev pub span_of : ℕ → ℕ → Span
span_of first last = record { from = row_asked first; to = row_asked last }

-- a text is the picture of the rows that are asked for, of the log and the certificates that texts say
pub record IsPictureOfTexts (text also : List ℕ) (span : Span) (made : List ℕ) : Type 0 where
  pub read : List Event
  pub rows_said : SaysLog text read
  pub certificates : List Certificate
  pub certificates_said : SayCertificates also certificates
  pub picture : IsCertifiedPicture [] span read certificates made

-- why rows of a log that was read are not drawn; nothing is said of want of memory
abbrev pub IsUndrawnRun : List Event → Span → Fault → Type 0
IsUndrawnRun read span (Log fault) = ⊥
IsUndrawnRun read span (Certificates fault) = ⊥
IsUndrawnRun read span (Picture w) = IsNoPicture span read w
IsUndrawnRun read span Memory = Unit {0}

-- why rows of the log that a text says are not drawn
abbrev pub IsUndrawn : List ℕ → List ℕ → Span → Fault → Type 0
IsUndrawn text also span (Picture w) = (read : List Event) × SaysLog text read × IsNoPicture span read w
IsUndrawn text also span fault = IsRefusal text also fault
