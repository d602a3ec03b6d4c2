-- What becomes of a stored log that is drawn.
use Rattle.std.proofs.Common.{◌≡◌, ◌≢◌, ℕ, List, Some, None, refl, sym, subst, inl, inr}
use Rattle.std.specs.Prelude.{Result, Ok, Err, OnOk}
use Rattle.std.specs.Io.KnownBytes.{Appends}
use Rattle.kt_log_text.specs.declared.fault.LogFault.{LogFault}
use Rattle.kt_log_text.specs.declared.fault.LogFault.TheVariants.{Read, TooLong, Version, Fields, Word, Number, Memory}
use Rattle.kt_spacetime.specs.declared.event.Event.{Event}
use Rattle.kt_spacetime.specs.declared.certificate.Certificate.{Certificate}
use Rattle.kt_checker.specs.Streamed.{SaysRows}
use Rattle.kt_draw.specs.declared.span.DrawFault.{DrawFault}
use Rattle.kt_draw.specs.declared.span.DrawFault.TheVariants as draw
use Rattle.kt_draw.specs.declared.span.Span.{Span}
use Rattle.kt_draw.specs.Drawn.{IsNoPictureOf, IsPictureOf, IsUndrawnLog}
use Rattle.kt_program.specs.declared.fault.AppFault.{AppFault}
use Rattle.kt_program.specs.declared.fault.AppFault.TheVariants as app
use Rattle.kt_program.specs.declared.fault.ProgramFault.{ProgramFault}
use Rattle.kt_program.specs.declared.fault.ProgramFault.TheVariants as program
use Rattle.kt_program.specs.Drawn.{AreNamesOf, IsOfDrawing, IsOfNames, IsPictureOfFile, IsPictureWith, IsSomePicture, IsUndrawn, IsUndrawnRun, LeavesPicture, of_draw}
use Rattle.kt_program.specs.Judging.{Say}
use Rattle.kt_program.specs.Names.{Name}
use Rattle.kt_program.specs.Outputs.{TextGoesTo}
use Rattle.kt_program.specs.Stored.{IsRefusal, BytesTold}

-- a fault of the bytes is one of the program
of_fault : (span : Span) (bytes : BytesTold) (fault : DrawFault) → IsNoPictureOf span bytes fault → IsUndrawn span bytes (of_draw fault)
of_fault span bytes (draw.Log Memory) h = tt
of_fault span bytes (draw.Log Read) h = ((λ e. cc), h)
of_fault span bytes (draw.Log TooLong) h = ((λ e. cc), h)
of_fault span bytes (draw.Log Version) h = ((λ e. cc), h)
of_fault span bytes (draw.Log (Fields n)) h = ((λ e. cc), h)
of_fault span bytes (draw.Log (Word n)) h = ((λ e. cc), h)
of_fault span bytes (draw.Log (Number n)) h = ((λ e. cc), h)
of_fault span bytes (draw.Picture why) h = h

pub undrawn : (span : Span) (bytes : BytesTold) (fault : DrawFault) (answer : AppFault) → answer ≡ of_draw fault → IsNoPictureOf span bytes fault → IsUndrawn span bytes answer
undrawn span bytes fault answer e h = subst (IsUndrawn span bytes) (sym e) (of_fault span bytes fault h)

-- a fault of names is one of a picture
pub of_names : (name : Name) (fault : ProgramFault) → IsOfNames name fault → IsOfDrawing name fault
of_names name (program.Scenario fault) h = h
of_names name program.Read h = h
of_names name (program.App fault) h = tt
of_names name program.Line h = absurd h
of_names name program.SameFile h = absurd h
of_names name (program.Steps fault) h = absurd h

-- a stored run is not read
pub unread_run : (span : Span) (log cert : BytesTold) (fault : AppFault) → fault ≢ app.Write → IsRefusal log cert fault → IsUndrawnRun span log cert fault
unread_run span log cert (app.Log fault) write h = h
unread_run span log cert (app.Cert fault) write h = h
unread_run span log cert app.Memory write h = tt
unread_run span log cert app.Write write h = absurd (write refl)
unread_run span log cert (app.Run fault) write h = h
unread_run span log cert (app.Live fault) write h = h
unread_run span log cert (app.Uncertified fault) write h = h
unread_run span log cert (app.Unfit why) write h = h
unread_run span log cert app.RecordTooLong write h = h
unread_run span log cert (app.Picture why) write h = absurd h
unread_run span log cert (app.Merge fault) write h = absurd h

-- it is not drawn
of_run_fault : (span : Span) (log cert : BytesTold) (read : List Event) (fault : DrawFault) → SaysRows log read → IsUndrawnLog span read fault → IsUndrawnRun span log cert (of_draw fault)
of_run_fault span log cert read (draw.Picture why) says h = (read, says, h)
of_run_fault span log cert read (draw.Log fault) says h = subst (λ (f : LogFault). IsUndrawnRun span log cert (of_draw (draw.Log f))) (sym h) tt

pub undrawn_run : (span : Span) (log cert : BytesTold) (read : List Event) (certificates : List Certificate) (fault : DrawFault) (answer : AppFault) → answer ≡ of_draw fault → Say log cert read certificates → IsUndrawnLog span read fault
    → IsUndrawnRun span log cert answer
undrawn_run span log cert read certificates fault answer e said h = subst (IsUndrawnRun span log cert) (sym e) (of_run_fault span log cert read fault said.rows_said h)

-- a text is the picture of the log in a file, where the one that it is the same as is
pub of_file : {F : Type 0} (told : F → BytesTold) (scenario cert : Name) (span : Span) (text was : List ℕ) (names : List (List ℕ)) (file : F) → text ≡ was → AreNamesOf told scenario names → IsPictureWith told cert names span (told file) was
    → IsPictureOfFile told scenario cert span text
of_file told scenario cert span text was names file same named picture = record {
  names = names;
  named = named;
  file = file;
  picture = subst (λ (t : List ℕ). IsPictureWith told cert names span (told file) t) (sym same) picture;
}

-- a picture of a stored log is one of some log
some_picture : {F : Type 0} (told : F → BytesTold) (cert : Name) (names : List (List ℕ)) (span : Span) (log : BytesTold) (text : List ℕ) → IsPictureWith told cert names span log text → IsSomePicture text
some_picture told None names span log text h = record { names = names; span = span; read = h.0; picture = inl h.2 }
some_picture told (Some file) names span log text h = record { names = names; span = span; read = h.1.0; picture = inr (h.1.1, h.1.3) }

module _ {F : Type 0} (told : F → BytesTold) (scenario cert : Name) (span : Span) (svg : Name) (text : List ℕ) (old new : BytesTold) (picture : IsPictureOfFile told scenario cert span text) where
  -- what is left on standard output
  pub leaves : TextGoesTo svg text old new → LeavesPicture old new
  leaves (inl goes) = inr (text, some_picture told cert picture.names span (told picture.file) text picture.picture, goes.1)
  leaves (inr kept) = inl kept.1
