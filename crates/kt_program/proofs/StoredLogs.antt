-- What becomes of a stored log that is certified.
use Rattle.std.proofs.Common.{◌≡◌, ◌≢◌, ℕ, List, Option, Some, None, IfSome, sym, subst, inl, inr}
use Rattle.std.specs.Io.KnownBytes.{Appends}
use Rattle.std.specs.Prelude.{Result, Ok, Err, OnOk, IfErr}
use Rattle.kt_spacetime.specs.declared.event.Event.{Event}
use Rattle.kt_meaning.specs.Legal.{IsLegal}
use Rattle.kt_log_text.specs.Reading.{rows_unread}
use Rattle.kt_log_text.specs.Texts as rows
use Rattle.kt_log_text.proofs.TextFacts.{one_log}
use Rattle.kt_log_text.specs.declared.fault.LogFault.{LogFault}
use Rattle.kt_log_text.specs.declared.fault.LogFault.TheVariants.{Read, TooLong, Version, Fields, Word, Number, Memory}
use Rattle.kt_spacetime.specs.declared.certificate.Certificate.{Certificate}
use Rattle.kt_meaning.specs.Certificates.{certificates}
use Rattle.kt_meaning.specs.Fitness.{HasNoChain, IsUnfit}
use Rattle.kt_meaning.specs.Meant.{AreMeant}
use Rattle.kt_certify.specs.Streamed.{AreCertified, AreRowsOf, IsFaultOfBytes}
use Rattle.kt_spacetime.specs.declared.unfit.Unfit.{Unfit as Unfits}
use Rattle.kt_checker.specs.Streamed.{SaysRows}
use Rattle.kt_certify.specs.declared.fault.StreamFault.{StreamFault}
use Rattle.kt_certify.specs.declared.fault.StreamFault.TheVariants.{Log, Unfit}
use Rattle.kt_program.specs.declared.fault.AppFault.{AppFault}
use Rattle.kt_program.specs.declared.fault.AppFault.TheVariants as app
use Rattle.kt_program.specs.Certified.{CertifiesTo, IsTextOfCertificates, IsUncertified, LeavesCertificates, LeavesCertified, of_stream, text_of_list}
use Rattle.kt_program.specs.declared.fault.Failure.{Failure}
use Rattle.kt_program.specs.declared.fault.ProgramFault.TheVariants as program
use Rattle.kt_program.specs.Names.{Name}
use Rattle.kt_program.specs.Outputs.{TextGoesTo}
use Rattle.kt_program.specs.Stored.{BytesTold, of_log, records_told}

-- a fault of the stream is one of the program
of_fault : (bytes : BytesTold) (fault : StreamFault) → IsFaultOfBytes bytes fault → IsUncertified bytes (of_stream fault)
of_fault bytes (Log Memory) h = tt
of_fault bytes (Log Read) h = ((λ e. cc), h)
of_fault bytes (Log TooLong) h = ((λ e. cc), h)
of_fault bytes (Log Version) h = ((λ e. cc), h)
of_fault bytes (Log (Fields n)) h = ((λ e. cc), h)
of_fault bytes (Log (Word n)) h = ((λ e. cc), h)
of_fault bytes (Log (Number n)) h = ((λ e. cc), h)
of_fault bytes (Unfit why) h = h

pub uncertified : (bytes : BytesTold) (fault : StreamFault) (answer : AppFault) → answer ≡ of_stream fault → IsFaultOfBytes bytes fault → IsUncertified bytes answer
uncertified bytes fault answer e h = subst (IsUncertified bytes) (sym e) (of_fault bytes fault h)

-- a fault of a log's text is one of the program
pub unread : (bytes : BytesTold) (fault : LogFault) → IfSome (records_told bytes) (λ text. rows.IsFirstLogFault text fault) → IsUncertified bytes (of_log fault)
unread bytes Memory h = tt
unread bytes Read h = ((λ e. cc), h)
unread bytes TooLong h = ((λ e. cc), h)
unread bytes Version h = ((λ e. cc), h)
unread bytes (Fields n) h = ((λ e. cc), h)
unread bytes (Word n) h = ((λ e. cc), h)
unread bytes (Number n) h = ((λ e. cc), h)

-- the rows that bytes say are the only ones
rows_of : (bytes : BytesTold) (read : List Event) → SaysRows bytes read → AreRowsOf bytes read
rows_of bytes read said = record { says = said; only = from (rows_unread bytes).left said }
  where
    from : (o : Option (List (List (List ℕ)))) → IfSome o (λ text. rows.IsLogText text read) → IfSome o (λ text. (others : List Event) → rows.IsLogText text others → others ≡ read)
    from None h = tt
    from (Some text) h = λ others other. one_log text others read other h

pub certified_rows : (bytes : BytesTold) (read : List Event) (list : List Certificate) → SaysRows bytes read → IsLegal read → ((k p : ℕ) → HasNoChain read k p → ⊥) → list ≡ certificates read → AreMeant read list
    → AreCertified bytes list
certified_rows bytes read list said legal chained is meant = record {
  rows = read;
  said = rows_of bytes read said;
  fit = record { legal = legal; chained = chained };
  certificates = is;
  meant = meant;
}

pub unfit_rows : (bytes : BytesTold) (read : List Event) (why : Unfits) → SaysRows bytes read → IsUnfit read why → IsUncertified bytes (app.Unfit why)
unfit_rows bytes read why said unfit = (read, rows_of bytes read said, unfit)

module _ {F : Type 0} (told : F → BytesTold) (name : Name) (text : List ℕ) (old new : BytesTold) (file : F) (is : IsTextOfCertificates (told file) text) where
  -- what is left on standard output
  leaves_certificates : TextGoesTo name text old new → LeavesCertificates old new
  leaves_certificates (inl goes) =
      let list = is.1 in
      inr (list.rows, list.fit, subst (λ (l : List Certificate). Appends old new (text_of_list l)) list.certificates (subst (λ (t : List ℕ). Appends old new t) is.2 goes.1))
  leaves_certificates (inr kept) = inl kept.1

  pub left : (result : Result Unit Failure) → OnOk result (TextGoesTo name text old new) → IfErr result (λ failure. failure.fault ≢ program.App app.Write → new ≡ old) → LeavesCertified result old new
  left (Ok u) goes kept = leaves_certificates goes
  left (Err fault) goes kept = kept

  pub certified_to : (result : Result Unit Failure) → OnOk result (TextGoesTo name text old new) → OnOk result (CertifiesTo told name old new)
  certified_to (Ok u) goes = (file, text, is, goes)
  certified_to (Err fault) goes = tt
