-- What the certificates gathered so far say of the text.
use Rattle.std.proofs.Common.{◌≡◌, ◌∙◌, ◌<◌, ◌≤◌, ◌+◌, ℕ, List, [], ◌∷◌, ◌++◌, Option, Some, None, IfSome, sym, ap, arith, length, length-append, append_assoc}
use Rattle.std.specs.Prelude.{All, option_map}
use Rattle.std.proofs.lemmas.List.Elements.{All-weaker}
use Rattle.kt_text.specs.Records.{text_records}
use Rattle.kt_text.specs.Records.{FieldsTaken as TakesRecord}
use Rattle.kt_spacetime.specs.declared.certificate.Certificate.{Certificate}
use Rattle.kt_chain.specs.declared.fault.CertTextFault.{CertTextFault}
use Rattle.kt_chain.specs.declared.fault.CertTextFault.TheVariants.{TooLong}
use Rattle.kt_chain.specs.declared.records.RecordFault.{RecordFault}
use Rattle.kt_chain.specs.declared.records.RecordFault.TheVariants as fault
use Rattle.kt_chain.specs.Spelling.{Member, IsCertificateWithin, IsMemberInRange, HasShortChains, most_messages, records_of}
use Rattle.kt_chain.specs.Texts.{certificate_width, IsRecordFault, IsCertificateFaultAfter, IsFirstCertificateFault, record_count, max_records, fault_at}
use Rattle.kt_chain.specs.Reading.{BeginsWithCertificates, CertificateTaken}

abbrev Records : Type 0
Records = List (List (List ℕ))

-- one record more
pub count_more : (old new : List Certificate) (fields : List (List ℕ)) → CertificateTaken old new fields → record_count new ≡ record_count old + 1
count_more old new fields taken = ap length taken.spelled ∙ length-append (records_of old) (fields ∷ [])

pub begins_more : (text left rest : Option Records) (old new : List Certificate) (fields : List (List ℕ)) → BeginsWithCertificates text left old → TakesRecord left rest fields → CertificateTaken old new fields
    → record_count old < max_records → BeginsWithCertificates text rest new
begins_more None left rest old new fields b t taken few = tt
begins_more (Some text) None rest old new fields b t taken few = absurd b
begins_more (Some text) (Some left) None old new fields b t taken few = absurd t
begins_more (Some text) (Some left) (Some rest) old new fields b t taken few = record {
  spelled = b.spelled ∙ ap (λ (x : Records). records_of old ++ x) t ∙ sym (append_assoc (records_of old) (fields ∷ []) rest) ∙ ap (λ (x : Records). x ++ rest) (sym taken.spelled);
  in_range = taken.in_range b.in_range;
  few = omega (arith, count_more old new fields taken, few);
}

-- what is wrong after them is what is first wrong
first_fault : (text left : Option Records) (certificates : List Certificate) (fault : CertTextFault) → BeginsWithCertificates text left certificates → IfSome left (λ left. IsCertificateFaultAfter certificates left fault)
    → IfSome text (λ t. IsFirstCertificateFault t fault)
first_fault None left certificates fault b h = tt
first_fault (Some text) None certificates fault b h = absurd b
first_fault (Some text) (Some left) certificates fault b h = record { before = certificates; left = left; after = b; wrong = h }

-- a record is wrong
wrong_record : (left rest : Option Records) (certificates : List Certificate) (fields : List (List ℕ)) (n : ℕ) (f : RecordFault) → TakesRecord left rest fields → n ≡ record_count certificates + 1
    → record_count certificates < max_records → IsRecordFault certificates fields f → IfSome left (λ left. IsCertificateFaultAfter certificates left (fault_at f n))
wrong_record None rest certificates fields n f t e few h = tt
wrong_record (Some left) None certificates fields n f t e few h = absurd t
wrong_record (Some left) (Some rest) certificates fields n fault.Memory t e few h = tt
wrong_record (Some left) (Some rest) certificates fields n fault.Fields t e few h = (e, few, fields, rest, t, h)
wrong_record (Some left) (Some rest) certificates fields n fault.Word t e few h = (e, few, fields, rest, t, h)
wrong_record (Some left) (Some rest) certificates fields n fault.Number t e few h = (e, few, fields, rest, t, h)
wrong_record (Some left) (Some rest) certificates fields n fault.Place t e few h = (e, few, fields, rest, t, h)

pub record_fault : (text left rest : Option Records) (certificates : List Certificate) (fields : List (List ℕ)) (n : ℕ) (f : RecordFault) → BeginsWithCertificates text left certificates
    → TakesRecord left rest fields → n ≡ record_count certificates + 1 → record_count certificates < max_records → IsRecordFault certificates fields f
    → IfSome text (λ t. IsFirstCertificateFault t (fault_at f n))
record_fault text left rest certificates fields n f b t e few h = first_fault text left certificates (fault_at f n) b (wrong_record left rest certificates fields n f t e few h)

-- a record comes after as many as there may be
one_too_many : (left rest : Option Records) (certificates : List Certificate) (fields : List (List ℕ)) → TakesRecord left rest fields → record_count certificates ≡ max_records
    → IfSome left (λ left. IsCertificateFaultAfter certificates left TooLong)
one_too_many None rest certificates fields t full = tt
one_too_many (Some left) None certificates fields t full = absurd t
one_too_many (Some left) (Some rest) certificates fields t full = (full, fields, rest, t)

pub too_long : (text left rest : Option Records) (certificates : List Certificate) (fields : List (List ℕ)) → BeginsWithCertificates text left certificates → TakesRecord left rest fields
    → record_count certificates ≡ max_records → IfSome text (λ t. IsFirstCertificateFault t TooLong)
too_long text left rest certificates fields b t full = first_fault text left certificates TooLong b (one_too_many left rest certificates fields t full)

-- from the records to the bytes
pub of_bytes : (told : Option (List ℕ)) (P : Records → Type 0) → IfSome (option_map (text_records certificate_width) told) P → IfSome told (λ bytes. P (text_records certificate_width bytes))
of_bytes None P h = tt
of_bytes (Some bytes) P h = h

-- certificates in range have short chains
pub short : (certificates : List Certificate) → All IsCertificateWithin certificates → All HasShortChains certificates
short certificates all = All-weaker IsCertificateWithin HasShortChains (λ c is. All-weaker IsMemberInRange (λ (member : Member). length member.1 ≤ most_messages) (λ member in_range. in_range.few) c.members is.members) certificates all
