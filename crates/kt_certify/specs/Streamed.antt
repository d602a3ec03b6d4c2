-- What is answered to the bytes of a log.
use Rattle.std.specs.Prelude.{◌≡◌, ℕ, Option, List, IfSome}
use Rattle.kt_spacetime.specs.declared.event.Event.{Event}
use Rattle.kt_log_text.specs.Reading.{rows_unread}
use Rattle.kt_log_text.specs.Texts.{IsLogText, IsFirstLogFault}
use Rattle.kt_spacetime.specs.declared.certificate.Certificate.{Certificate}
use Rattle.kt_checker.specs.Streamed.{SaysRows}
use Rattle.kt_meaning.specs.Certificates.{certificates}
use Rattle.kt_meaning.specs.Fitness.{IsFitLog, IsUnfit}
use Rattle.kt_meaning.specs.Meant.{AreMeant}
use Rattle.kt_certify.specs.declared.fault.StreamFault.{StreamFault}
use Rattle.kt_certify.specs.declared.fault.StreamFault.TheVariants.{Log, Unfit}

-- the bytes that a reader tells, where it does, say these rows and no others
pub record AreRowsOf (bytes : Option (List ℕ)) (rows : List Event) : Type 0 where
  pub says : SaysRows bytes rows
  pub only : IfSome (rows_unread bytes).left (λ text. (others : List Event) → IsLogText text others → others ≡ rows)

-- these are the certificates of the rows that the bytes say, which are fit, and what these rows mean
pub record AreCertified (bytes : Option (List ℕ)) (list : List Certificate) : Type 0 where
  pub rows : List Event
  pub said : AreRowsOf bytes rows
  pub fit : IsFitLog rows
  pub certificates : list ≡ certificates rows
  pub meant : AreMeant rows list

-- a fault of the bytes: the first of their text, or why the rows that they say are not fit
abbrev pub IsFaultOfBytes : Option (List ℕ) → StreamFault → Type 0
IsFaultOfBytes bytes (Log fault) = IfSome (rows_unread bytes).left (λ text. IsFirstLogFault text fault)
IsFaultOfBytes bytes (Unfit why) = (rows : List Event) × AreRowsOf bytes rows × IsUnfit rows why
