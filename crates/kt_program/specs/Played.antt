-- What is written of a run.
use Rattle.std.specs.Prelude.{◌≡◌, ◌≢◌, ◌<◌, ◌⊎◌, [], ◌∷◌, ℕ, Option, List, length, map, slice_index, slice_index_or}
use Rattle.std.specs.Io.KnownBytes.{Appends}
use Rattle.kt_object.specs.Holdings.{Content, content}
use Rattle.kt_object.specs.Value.{opening_value}
use Rattle.kt_spacetime.specs.declared.event.Event.{Event}
use Rattle.kt_text.specs.Writing.{text_of, WritesFront}
use Rattle.kt_text.specs.declared.fault.WriteFault.{WriteFault}
use Rattle.kt_text.specs.declared.fault.WriteFault.TheVariants as write
use Rattle.kt_log_text.specs.Spelling.{spelling}
use Rattle.kt_log_text.specs.Texts.{header}
use Rattle.kt_chain.specs.Spelling.{records_of}
use Rattle.kt_meaning.specs.Certificates.{certificates}
use Rattle.kt_spacetime.specs.declared.unfit.CertFault.{CertFault}
use Rattle.kt_spacetime.specs.declared.unfit.CertFault.TheVariants as certify
use Rattle.kt_report.specs.Exact.{report_of}
use Rattle.kt_plan.specs.Limits.{Planned}
use Rattle.kt_meaning.specs.Follows.{FollowsPlan}
use Rattle.kt_meaning.specs.Promised.{IsPromised}
use Rattle.kt_run.specs.Objects.{first_of}
use Rattle.kt_run.specs.declared.faults.RunFault.{RunFault}
use Rattle.kt_run.specs.declared.faults.RunFault.TheVariants as run
use Rattle.kt_threads.specs.declared.faults.LiveFault.{LiveFault}
use Rattle.kt_threads.specs.declared.faults.LiveFault.TheVariants as live
use Rattle.kt_program.specs.declared.fault.AppFault.{AppFault}
use Rattle.kt_program.specs.declared.fault.AppFault.TheVariants as app

-- what the three writers of a run hold, as far as they tell it
pub record Outputs : Type 0 where
  pub log : Option (List ℕ)
  pub certificates : Option (List ℕ)
  pub report : Option (List ℕ)

-- the same, of what three writers tell
abbrev pub outputs : Option (List ℕ) → Option (List ℕ) → Option (List ℕ) → Outputs
outputs log certificates report = record { log = log; certificates = certificates; report = report }

-- the text of a log of these rows
abbrev pub log_text : List Event → List ℕ
log_text rows = text_of (header ∷ map spelling rows)

-- the text of the certificates of such a log
abbrev pub certificate_text : List Event → List ℕ
certificate_text rows = text_of (records_of (certificates rows))

-- a log of these rows, of a run of this plan, its certificates and its report are written
pub record WritesRun (plan : Planned) (rows : List Event) (old new : Outputs) : Type 0 where
  pub log : Appends old.log new.log (log_text rows)
  pub chains : Appends old.certificates new.certificates (certificate_text rows)
  pub report : Appends old.report new.report (report_of plan rows (certificates rows))

-- a run of this plan is written whose rows are such; they follow the plan, told by the rows alone, and all is so of them that
-- is promised of a run
pub record IsWritten (Are : List Event → Type 0) (plan : Planned) (old new : Outputs) : Type 0 where
  pub rows : List Event
  pub run : Are rows
  pub follows : FollowsPlan plan rows
  pub promised : IsPromised rows
  pub writes : WritesRun plan rows old new

-- the object that each process has first is new: it is of its process's kind, and has that kind's opening value
abbrev pub AreNew : Planned → List (List Content) → Type 0
AreNew plan cast = (p : ℕ) → p < length plan.kinds
    → first_of (slice_index_or cast p []) ≡ content (slice_index plan.kinds p) (opening_value (slice_index plan.kinds p))

-- with such objects these are such rows
abbrev pub OverNew : Planned → (List (List Content) → List Event → Type 0) → List Event → Type 0
OverNew plan Are rows = (cast : List (List Content)) × AreNew plan cast × Are cast rows

-- a fault of a run, as the program answers it
abbrev pub of_run : RunFault → AppFault
of_run run.Memory = app.Memory
of_run fault = app.Run fault

-- a fault of a run by threads, as the program answers it
abbrev pub of_live : LiveFault → AppFault
of_live live.Memory = app.Memory
of_live fault = app.Live fault

-- why a log has no certificates, as the program answers it
abbrev pub of_cert_fault : CertFault → AppFault
of_cert_fault certify.Memory = app.Memory
of_cert_fault fault = app.Uncertified fault

-- a fault of a text that is written, as the program answers it
abbrev pub of_writing : WriteFault → AppFault
of_writing write.Write = app.Write
of_writing write.Memory = app.Memory

-- a fault that comes of writing
abbrev pub IsOfWriting : AppFault → Type 0
IsOfWriting fault = (fault ≡ app.Write) ⊎ (fault ≡ app.Memory)

-- nothing is written
abbrev pub IsUnwritten : Outputs → Outputs → Type 0
IsUnwritten old new = (new.log ≡ old.log) × (new.certificates ≡ old.certificates) × (new.report ≡ old.report)

-- writing stops in the log of these rows: a front part of it is written, and nothing of what comes later
pub record StopsInLog (rows : List Event) (old new : Outputs) : Type 0 where
  pub log : WritesFront old.log new.log (log_text rows)
  pub chains : new.certificates ≡ old.certificates
  pub report : new.report ≡ old.report

-- it stops in the certificates: the log and a front part of them are written, and nothing of the report
pub record StopsInCertificates (rows : List Event) (old new : Outputs) : Type 0 where
  pub log : Appends old.log new.log (log_text rows)
  pub chains : WritesFront old.certificates new.certificates (certificate_text rows)
  pub report : new.report ≡ old.report

-- it stops in the report: the log, the certificates and a front part of it are written
pub record StopsInReport (plan : Planned) (rows : List Event) (old new : Outputs) : Type 0 where
  pub log : Appends old.log new.log (log_text rows)
  pub chains : Appends old.certificates new.certificates (certificate_text rows)
  pub report : WritesFront old.report new.report (report_of plan rows (certificates rows))

-- writing a run, whose rows are such, stops somewhere
abbrev pub StopsWriting : (List Event → Type 0) → Planned → Outputs → Outputs → Type 0
StopsWriting Are plan old new = (rows : List Event) × Are rows
    × (StopsInLog rows old new ⊎ (StopsInCertificates rows old new ⊎ StopsInReport plan rows old new))

-- what is written where a run, whose rows are such, is not written to its end
abbrev pub StopsAtFault : (List Event → Type 0) → Planned → Outputs → Outputs → AppFault → Type 0
StopsAtFault Are plan old new (app.Run fault) = (fault ≢ run.Memory) × IsUnwritten old new
StopsAtFault Are plan old new (app.Live fault) = (fault ≢ live.Memory) × IsUnwritten old new
StopsAtFault Are plan old new (app.Uncertified fault) = ⊥
StopsAtFault Are plan old new (app.Unfit why) = ⊥
StopsAtFault Are plan old new app.RecordTooLong = ⊥
StopsAtFault Are plan old new (app.Picture why) = ⊥
StopsAtFault Are plan old new (app.Merge fault) = ⊥
StopsAtFault Are plan old new app.Write = StopsWriting Are plan old new
StopsAtFault Are plan old new app.Memory = IsUnwritten old new ⊎ StopsWriting Are plan old new
StopsAtFault Are plan old new (app.Log fault) = ⊥
StopsAtFault Are plan old new (app.Cert fault) = ⊥
