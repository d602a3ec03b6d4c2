-- What the program draws of a stored log.
use Rattle.std.specs.Prelude.{◌≡◌, ◌≢◌, ◌⊎◌, ℕ, List, [], Some, None, Result, Ok, Err, IfSome}
use Rattle.std.specs.Io.KnownBytes.{Appends}
use Rattle.kt_spacetime.specs.declared.event.Event.{Event}
use Rattle.kt_log_text.specs.declared.fault.LogFault.TheVariants as log
use Rattle.kt_log_text.specs.Texts as texts
use Rattle.kt_spacetime.specs.declared.certificate.Certificate.{Certificate}
use Rattle.kt_checker.specs.Streamed.{SaysRows}
use Rattle.kt_draw.specs.declared.span.DrawFault.{DrawFault}
use Rattle.kt_draw.specs.declared.span.DrawFault.TheVariants as draw
use Rattle.kt_draw.specs.declared.span.Span.{Span}
use Rattle.kt_draw.specs.Drawn.{IsCertifiedPicture, IsNoPicture, IsPicture, IsPictureOf}
use Rattle.kt_plan.specs.Limits.{Planned}
use Rattle.kt_program.specs.declared.ending.Done.{Done}
use Rattle.kt_program.specs.declared.fault.AppFault.{AppFault}
use Rattle.kt_program.specs.declared.fault.AppFault.TheVariants as app
use Rattle.kt_program.specs.declared.fault.Failure.{Failure}
use Rattle.kt_program.specs.declared.fault.ProgramFault.{ProgramFault}
use Rattle.kt_program.specs.declared.fault.ProgramFault.TheVariants as program
use Rattle.kt_program.specs.declared.line.Drawing.{Drawing}
use Rattle.kt_program.specs.Judging.{Say}
use Rattle.kt_program.specs.Inputs.{IsPlanOfFile}
use Rattle.kt_program.specs.Names.{IsNamed, Name}
use Rattle.kt_program.specs.Outputs.{TextGoesTo}
use Rattle.kt_program.specs.Stored.{IsRefusal, BytesTold, records_told}

-- why a stored log is not drawn: its first fault, or why it has no such picture; nothing is said of want of memory
abbrev pub IsUndrawn : Span → BytesTold → AppFault → Type 0
IsUndrawn span bytes (app.Log fault) = (fault ≢ log.Memory) × IfSome (records_told bytes) (λ text. texts.IsFirstLogFault text fault)
IsUndrawn span bytes (app.Picture why) = (read : List Event) × SaysRows bytes read × IsNoPicture span read why
IsUndrawn span bytes app.Memory = Unit {0}
IsUndrawn span bytes app.Write = ⊥
IsUndrawn span bytes (app.Cert fault) = ⊥
IsUndrawn span bytes (app.Run fault) = ⊥
IsUndrawn span bytes (app.Live fault) = ⊥
IsUndrawn span bytes (app.Uncertified fault) = ⊥
IsUndrawn span bytes (app.Unfit why) = ⊥
IsUndrawn span bytes app.RecordTooLong = ⊥
IsUndrawn span bytes (app.Merge fault) = ⊥

-- a fault of a stored log that is drawn, as the program answers it
abbrev pub of_draw : DrawFault → AppFault
of_draw (draw.Log log.Memory) = app.Memory
of_draw (draw.Log fault) = app.Log fault
of_draw (draw.Picture why) = app.Picture why

-- a text is the picture of the rows that are asked for, of the log that bytes say, with the certificates that others say
abbrev pub IsCertifiedPictureOf : List (List ℕ) → Span → BytesTold → BytesTold → List ℕ → Type 0
IsCertifiedPictureOf names span log cert text =
    (read : List Event) × (certificates : List Certificate) × Say log cert read certificates × IsCertifiedPicture names span read certificates text

-- why a stored log is not drawn with its certificates: its first fault, or that of the certificates of a log that was read, or
-- why the log has no such picture; nothing is said of want of memory
abbrev pub IsUndrawnRun : Span → BytesTold → BytesTold → AppFault → Type 0
IsUndrawnRun span log cert (app.Log fault) = IsRefusal log cert (app.Log fault)
IsUndrawnRun span log cert (app.Cert fault) = IsRefusal log cert (app.Cert fault)
IsUndrawnRun span log cert (app.Picture why) = (read : List Event) × SaysRows log read × IsNoPicture span read why
IsUndrawnRun span log cert app.Memory = Unit {0}
IsUndrawnRun span log cert app.Write = ⊥
IsUndrawnRun span log cert (app.Run fault) = ⊥
IsUndrawnRun span log cert (app.Live fault) = ⊥
IsUndrawnRun span log cert (app.Uncertified fault) = ⊥
IsUndrawnRun span log cert (app.Unfit why) = ⊥
IsUndrawnRun span log cert app.RecordTooLong = ⊥
IsUndrawnRun span log cert (app.Merge fault) = ⊥

-- the names of processes: those of the scenario that a file says, where one is named, and else none
abbrev pub AreNamesOf : {F : Type 0} → (F → BytesTold) → Name → List (List ℕ) → Type 0
AreNamesOf told None names = names ≡ []
AreNamesOf told (Some name) names = (plan : Planned) × IsPlanOfFile told plan × (names ≡ plan.names)

-- a text is a picture of the log that bytes say, with the certificates that a file says, where one is named
abbrev pub IsPictureWith : {F : Type 0} → (F → BytesTold) → Name → List (List ℕ) → Span → BytesTold → List ℕ → Type 0
IsPictureWith told None names span log text = IsPictureOf names span log text
IsPictureWith {F = F} told (Some cert) names span log text = (file : F) × IsCertifiedPictureOf names span log (told file) text

-- a text is a picture of the log that a file says, with the names of the scenario and the certificates of the file that are
-- named
pub record IsPictureOfFile {F : Type 0} (told : F → BytesTold) (scenario cert : Name) (span : Span) (text : List ℕ) : Type 0 where
  pub names : List (List ℕ)
  pub named : AreNamesOf told scenario names
  pub file : F
  pub picture : IsPictureWith told cert names span (told file) text

-- such a picture goes where it is asked for
abbrev pub DrawsTo : {F : Type 0} → (F → BytesTold) → Drawing → BytesTold → BytesTold → Type 0
DrawsTo told asked old new = (text : List ℕ) × IsPictureOfFile told asked.names asked.cert asked.span text × TextGoesTo asked.svg text old new

-- a text is a picture of some log, perhaps with certificates
pub record IsSomePicture (text : List ℕ) : Type 0 where
  pub names : List (List ℕ)
  pub span : Span
  pub read : List Event
  pub picture : IsPicture names span read text ⊎ ((certificates : List Certificate) × IsCertifiedPicture names span read certificates text)

-- standard output has the picture of a log, or nothing new where it goes into a file
abbrev pub LeavesPicture : BytesTold → BytesTold → Type 0
LeavesPicture old new = (new ≡ old) ⊎ ((text : List ℕ) × IsSomePicture text × Appends old new text)

-- the same; at a fault nothing new, unless the writer failed
abbrev pub LeavesDrawn : Result Done Failure → BytesTold → BytesTold → Type 0
LeavesDrawn (Ok what) old new = LeavesPicture old new
LeavesDrawn (Err failure) old new = failure.fault ≢ program.App app.Write → new ≡ old

-- a fault of a scenario that is read for its names, where one is named
abbrev pub IsOfNames : Name → ProgramFault → Type 0
IsOfNames name (program.Scenario fault) = IsNamed name
IsOfNames name program.Read = IsNamed name
IsOfNames name (program.App fault) = Unit {0}
IsOfNames name program.Line = ⊥
IsOfNames name program.SameFile = ⊥
IsOfNames name (program.Steps fault) = ⊥

-- a fault of a picture: of the scenario where one is named, of the log, or of writing
abbrev pub IsOfDrawing : Name → ProgramFault → Type 0
IsOfDrawing name (program.Scenario fault) = IsNamed name
IsOfDrawing name program.Read = IsNamed name
IsOfDrawing name (program.App fault) = Unit {0}
IsOfDrawing name program.SameFile = Unit {0}
IsOfDrawing name program.Line = ⊥
IsOfDrawing name (program.Steps fault) = ⊥
