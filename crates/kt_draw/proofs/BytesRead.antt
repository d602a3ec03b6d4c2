-- What becomes of the bytes of a log that is to be drawn.
use Rattle.std.proofs.Common.{◌≡◌, ℕ, List, Option, sym, subst}
use Rattle.std.specs.Prelude.{Result, Ok, Err, IfErr, IfSome}
use Rattle.kt_spacetime.specs.declared.event.Event.{Event}
use Rattle.kt_log_text.specs.declared.fault.LogFault.{LogFault}
use Rattle.kt_log_text.specs.declared.fault.LogFault.TheVariants.{Read, TooLong, Version, Fields, Word, Number, Memory}
use Rattle.kt_log_text.specs.Reading.{rows_unread}
use Rattle.kt_log_text.specs.Texts.{IsFirstLogFault}
use Rattle.kt_checker.specs.Streamed.{SaysRows}
use Rattle.kt_draw.specs.declared.span.DrawFault.{DrawFault}
use Rattle.kt_draw.specs.declared.span.DrawFault.TheVariants as draw
use Rattle.kt_draw.specs.declared.span.Span.{Span}
use Rattle.kt_draw.specs.Drawn.{IsNoPictureOf, IsUndrawnLog}

-- the first fault of the text
of_text : (span : Span) (bytes : Option (List ℕ)) (fault : LogFault) → IfSome (rows_unread bytes).left (λ text. IsFirstLogFault text fault) → IsNoPictureOf span bytes (draw.Log fault)
of_text span bytes Memory h = tt
of_text span bytes Read h = h
of_text span bytes TooLong h = h
of_text span bytes Version h = h
of_text span bytes (Fields n) h = h
of_text span bytes (Word n) h = h
of_text span bytes (Number n) h = h

pub text_refused : (span : Span) (bytes : Option (List ℕ)) (fault : LogFault) (e : DrawFault) → e ≡ draw.Log fault → IfSome (rows_unread bytes).left (λ text. IsFirstLogFault text fault) → IsNoPictureOf span bytes e
text_refused span bytes fault e is h = subst (IsNoPictureOf span bytes) (sym is) (of_text span bytes fault h)

-- a fault of the rows
of_rows : (span : Span) (bytes : Option (List ℕ)) (read : List Event) (e : DrawFault) → SaysRows bytes read → IsUndrawnLog span read e → IsNoPictureOf span bytes e
of_rows span bytes read (draw.Picture why) says h = (read, says, h)
of_rows span bytes read (draw.Log fault) says h = subst (λ (f : LogFault). IsNoPictureOf span bytes (draw.Log f)) (sym h) tt

pub rows_undrawn : {X : Type 0} (span : Span) (bytes : Option (List ℕ)) (read : List Event) (result : Result X DrawFault) → SaysRows bytes read → IfErr result (IsUndrawnLog span read) → IfErr result (IsNoPictureOf span bytes)
rows_undrawn span bytes read (Ok x) says h = tt
rows_undrawn span bytes read (Err e) says h = of_rows span bytes read e says h

-- nothing is said of want of memory
pub memory_refused : (span : Span) (bytes : Option (List ℕ)) (e : DrawFault) → e ≡ draw.Log Memory → IsNoPictureOf span bytes e
memory_refused span bytes e is = subst (IsNoPictureOf span bytes) (sym is) tt
