-- What the program makes of a stored log that is to be certified.
use Rattle.std.specs.Prelude.{◌≡◌, ◌≢◌, ◌⊎◌, ℕ, List, Result, Ok, Err, IfSome}
use Rattle.std.specs.Io.KnownBytes.{Appends}
use Rattle.kt_spacetime.specs.declared.event.Event.{Event}
use Rattle.kt_text.specs.Writing.{WritesFront, text_of}
use Rattle.kt_log_text.specs.declared.fault.LogFault.TheVariants as log
use Rattle.kt_log_text.specs.Texts as rows
use Rattle.kt_spacetime.specs.declared.certificate.Certificate.{Certificate}
use Rattle.kt_chain.specs.Spelling.{records_of}
use Rattle.kt_meaning.specs.Certificates.{certificates}
use Rattle.kt_meaning.specs.Fitness.{IsFitLog, IsUnfit}
use Rattle.kt_certify.specs.Streamed.{AreCertified, AreRowsOf}
use Rattle.kt_certify.specs.declared.fault.StreamFault.{StreamFault}
use Rattle.kt_certify.specs.declared.fault.StreamFault.TheVariants as stream
use Rattle.kt_program.specs.declared.fault.AppFault.{AppFault}
use Rattle.kt_program.specs.declared.fault.AppFault.TheVariants as app
use Rattle.kt_program.specs.declared.fault.Failure.{Failure}
use Rattle.kt_program.specs.declared.fault.ProgramFault.{ProgramFault}
use Rattle.kt_program.specs.declared.fault.ProgramFault.TheVariants as program
use Rattle.kt_program.specs.Names.{Name}
use Rattle.kt_program.specs.Outputs.{TextGoesTo}
use Rattle.kt_program.specs.Stored.{BytesTold, records_told}

-- the text of these certificates
abbrev pub text_of_list : List Certificate → List ℕ
text_of_list list = text_of (records_of list)

-- a text is that of the certificates of the rows that the bytes say
abbrev pub IsTextOfCertificates : BytesTold → List ℕ → Type 0
IsTextOfCertificates bytes text = (list : List Certificate) × AreCertified bytes list × (text ≡ text_of_list list)

-- it is written
abbrev pub WritesCertificates : BytesTold → BytesTold → BytesTold → Type 0
WritesCertificates bytes old new = (text : List ℕ) × IsTextOfCertificates bytes text × Appends old new text

-- writing it stops: a front part of it is written
abbrev pub StopsInCertificates : BytesTold → BytesTold → BytesTold → Type 0
StopsInCertificates bytes old new = (text : List ℕ) × IsTextOfCertificates bytes text × WritesFront old new text

-- why a stored log has no certificates: its first fault, or why its rows are not fit; nothing is said of want of memory
abbrev pub IsUncertified : BytesTold → AppFault → Type 0
IsUncertified bytes (app.Log fault) = (fault ≢ log.Memory) × IfSome (records_told bytes) (λ text. rows.IsFirstLogFault text fault)
IsUncertified bytes (app.Unfit why) = (read : List Event) × AreRowsOf bytes read × IsUnfit read why
IsUncertified bytes app.Memory = Unit {0}
IsUncertified bytes app.Write = ⊥
IsUncertified bytes app.RecordTooLong = ⊥
IsUncertified bytes (app.Cert fault) = ⊥
IsUncertified bytes (app.Run fault) = ⊥
IsUncertified bytes (app.Live fault) = ⊥
IsUncertified bytes (app.Uncertified fault) = ⊥
IsUncertified bytes (app.Picture why) = ⊥
IsUncertified bytes (app.Merge fault) = ⊥

-- a fault of a stored log, as the program answers it
abbrev pub of_stream : StreamFault → AppFault
of_stream (stream.Log log.Memory) = app.Memory
of_stream (stream.Log fault) = app.Log fault
of_stream (stream.Unfit why) = app.Unfit why

-- the text of the certificates of the rows that a file says goes where it is asked for
abbrev pub CertifiesTo : {F : Type 0} → (F → BytesTold) → Name → BytesTold → BytesTold → Type 0
CertifiesTo {F} told name old new = (file : F) × (text : List ℕ) × IsTextOfCertificates (told file) text × TextGoesTo name text old new

-- standard output has the certificates of rows that are fit, or nothing new where they go into a file
abbrev pub LeavesCertificates : BytesTold → BytesTold → Type 0
LeavesCertificates old new = (new ≡ old) ⊎ ((read : List Event) × IsFitLog read × Appends old new (text_of_list (certificates read)))

-- the same; at a fault nothing new, unless the writer failed
abbrev pub LeavesCertified : Result Unit Failure → BytesTold → BytesTold → Type 0
LeavesCertified (Ok u) old new = LeavesCertificates old new
LeavesCertified (Err failure) old new = failure.fault ≢ program.App app.Write → new ≡ old

-- a fault of certifying: none of the words, nor of a scenario or steps
abbrev pub IsOfCertifying : ProgramFault → Type 0
IsOfCertifying program.SameFile = Unit {0}
IsOfCertifying (program.App fault) = Unit {0}
IsOfCertifying program.Line = ⊥
IsOfCertifying (program.Scenario fault) = ⊥
IsOfCertifying (program.Steps fault) = ⊥
IsOfCertifying program.Read = ⊥
