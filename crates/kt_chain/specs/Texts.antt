-- Which certificates the records of a text say, and what is first wrong in them.
use Rattle.std.specs.Prelude.{◌≡◌, ◌≢◌, ◌⊎◌, ◌≤◌, ◌<◌, ◌+◌, ◌^◌, ℕ, Bool, List, [], ◌∷◌, ◌++◌, length, codes, All}
use Rattle.std.specs.Fmt.{decimal}
use Rattle.kt_base.specs.Numbers.{IsProcNo, IsMsgNo, IsInstNo}
use Rattle.kt_base.specs.declared.words.Kind.{Kind}
use Rattle.kt_text.specs.Words.{kind_word, decision_word}
use Rattle.kt_spacetime.specs.declared.certificate.Certificate.{Certificate}
use Rattle.kt_chain.specs.declared.fault.CertTextFault.{CertTextFault}
use Rattle.kt_chain.specs.declared.fault.CertTextFault.TheVariants.{Read, TooLong, Fields, Word, Number, Place, Memory}
use Rattle.kt_chain.specs.declared.records.RecordFault.{RecordFault}
use Rattle.kt_chain.specs.declared.records.RecordFault.TheVariants as fault
use Rattle.kt_chain.specs.Spelling.{IsCertificateWithin, records_of, chain_word, most_messages}

-- how many fields a record has
abbrev pub certificate_width : ℕ
certificate_width = 5

-- how many records a text has at most
abbrev pub max_records : ℕ
max_records = 2 ^ 19

-- how many records some certificates have
abbrev pub record_count : List Certificate → ℕ
record_count certificates = length (records_of certificates)

-- the records say these certificates
pub record IsCertText (text : List (List (List ℕ))) (certificates : List Certificate) : Type 0 where
  pub spelled : text ≡ records_of certificates
  pub in_range : All IsCertificateWithin certificates
  pub few : record_count certificates ≤ max_records

-- what may stand in a field after a record's word
pub data Slot : Type 0 where
  instance : Slot
  kind : Slot
  process : Slot
  decision : Slot
  count : Slot
  chain : Slot

-- a text spells what may stand in a field
abbrev pub FitsCertificateSlot : Slot → List ℕ → Type 0
FitsCertificateSlot instance text = (k : ℕ) × IsInstNo k × (text ≡ decimal k)
FitsCertificateSlot kind text = (k : Kind) × (text ≡ kind_word k)
FitsCertificateSlot process text = (p : ℕ) × IsProcNo p × (text ≡ decimal p)
FitsCertificateSlot decision text = (commit : Bool) × (text ≡ decision_word commit)
FitsCertificateSlot count text = (n : ℕ) × (n ≤ most_messages) × (text ≡ decimal n)
FitsCertificateSlot chain text = (messages : List ℕ) × All IsMsgNo messages × (text ≡ chain_word messages)

-- which fault it is that a field does not fit
abbrev pub certificate_misfit : Slot → RecordFault
certificate_misfit instance = fault.Number
certificate_misfit kind = fault.Word
certificate_misfit process = fault.Number
certificate_misfit decision = fault.Word
certificate_misfit count = fault.Number
certificate_misfit chain = fault.Number

-- a text does not fit, and this is the fault
abbrev pub IsCertificateMisfit : Slot → List ℕ → RecordFault → Type 0
IsCertificateMisfit slot text f = (f ≡ certificate_misfit slot) × (FitsCertificateSlot slot text → ⊥)

-- of four texts the first that does not fit gives the fault
abbrev pub IsFirstCertificateMisfit : Slot → Slot → Slot → Slot → List ℕ → List ℕ → List ℕ → List ℕ → RecordFault → Type 0
IsFirstCertificateMisfit w x y z a b c d f =
    IsCertificateMisfit w a f ⊎ ((FitsCertificateSlot w a × IsCertificateMisfit x b f) ⊎ ((FitsCertificateSlot w a × FitsCertificateSlot x b × IsCertificateMisfit y c f) ⊎ (FitsCertificateSlot w a × FitsCertificateSlot x b × FitsCertificateSlot y c × IsCertificateMisfit z d f)))

-- a field after the word of a record of an instance does not fit
abbrev pub IsInstanceMisfit : List ℕ → List ℕ → List ℕ → List ℕ → RecordFault → Type 0
IsInstanceMisfit a b c d f = IsFirstCertificateMisfit instance kind process decision a b c d f

-- a field after the word of a member's record does not fit
abbrev pub IsMemberMisfit : List ℕ → List ℕ → List ℕ → List ℕ → RecordFault → Type 0
IsMemberMisfit a b c d f = IsFirstCertificateMisfit instance process count chain a b c d f

-- the fields after the word of a member's record all fit
abbrev pub AreMemberFields : List ℕ → List ℕ → List ℕ → List ℕ → Type 0
AreMemberFields a b c d = FitsCertificateSlot instance a × FitsCertificateSlot process b × FitsCertificateSlot count c × FitsCertificateSlot chain d

-- the count that a member's record says is not that of its messages
abbrev pub IsOtherCount : List ℕ → List ℕ → Type 0
IsOtherCount c d = (messages : List ℕ) × All IsMsgNo messages × (d ≡ chain_word messages) × (c ≢ decimal (length messages))

-- the last of these certificates is of another instance than a member's record says
abbrev pub IsOtherInstance : List Certificate → List ℕ → Type 0
IsOtherInstance before a = (certificates : List Certificate) × (last : Certificate) × (before ≡ certificates ++ last ∷ []) × (a ≢ decimal last.inst)

-- a member's record is out of place: before any certificate, of another instance than the last one, or with another
-- count of messages than it says
abbrev pub IsOutOfPlace : List Certificate → List ℕ → List ℕ → List ℕ → Type 0
IsOutOfPlace before a c d = IsOtherCount c d ⊎ ((before ≡ []) ⊎ IsOtherInstance before a)

-- what is first wrong after the word of a member's record: a field, or the place
abbrev pub IsMemberFault : List Certificate → List ℕ → List ℕ → List ℕ → List ℕ → RecordFault → Type 0
IsMemberFault before a b c d f = IsMemberMisfit a b c d f ⊎ ((f ≡ fault.Place) × AreMemberFields a b c d × IsOutOfPlace before a c d)

-- what is first wrong in five fields after these certificates: the word, or what is after it
abbrev pub IsCertificateFieldFault : List Certificate → List ℕ → List ℕ → List ℕ → List ℕ → List ℕ → RecordFault → Type 0
IsCertificateFieldFault before word a b c d f =
    ((f ≡ fault.Word) × (word ≢ codes "cert") × (word ≢ codes "member"))
    ⊎ (((word ≡ codes "cert") × IsInstanceMisfit a b c d f)
    ⊎ ((word ≡ codes "member") × IsMemberFault before a b c d f))

-- what is first wrong in a record after these certificates: how many fields it has, or what is in them; nothing is said
-- of when memory fails
abbrev pub IsRecordFault : List Certificate → List (List ℕ) → RecordFault → Type 0
IsRecordFault before fields fault.Memory = Unit {0}
IsRecordFault before fields fault.Fields = length fields ≢ 5
IsRecordFault before fields f = (word a b c d : List ℕ) × (fields ≡ word ∷ a ∷ b ∷ c ∷ d ∷ []) × IsCertificateFieldFault before word a b c d f

-- the fault of a text whose record of this number is wrong
abbrev pub fault_at : RecordFault → ℕ → CertTextFault
fault_at fault.Fields n = Fields n
fault_at fault.Word n = Word n
fault_at fault.Number n = Number n
fault_at fault.Place n = Place n
fault_at fault.Memory n = Memory

-- the record of this number is the one after these certificates, and this is wrong in it
abbrev pub IsWrongAt : List Certificate → List (List (List ℕ)) → ℕ → RecordFault → Type 0
IsWrongAt before left n f =
    (n ≡ record_count before + 1) × (record_count before < max_records)
    × (fields : List (List ℕ)) × (rest : List (List (List ℕ))) × (left ≡ fields ∷ rest) × IsRecordFault before fields f

-- after these certificates, what is first wrong in the records that are left; nothing is said of when a reader or
-- memory fails
abbrev pub IsCertificateFaultAfter : List Certificate → List (List (List ℕ)) → CertTextFault → Type 0
IsCertificateFaultAfter before left Read = Unit {0}
IsCertificateFaultAfter before left Memory = Unit {0}
IsCertificateFaultAfter before left TooLong = (record_count before ≡ max_records) × (fields : List (List ℕ)) × (rest : List (List (List ℕ))) × (left ≡ fields ∷ rest)
IsCertificateFaultAfter before left (Fields n) = IsWrongAt before left n fault.Fields
IsCertificateFaultAfter before left (Word n) = IsWrongAt before left n fault.Word
IsCertificateFaultAfter before left (Number n) = IsWrongAt before left n fault.Number
IsCertificateFaultAfter before left (Place n) = IsWrongAt before left n fault.Place

-- a text begins with the records of these certificates, and this is left
pub record IsAfterCertificates (before : List Certificate) (left text : List (List (List ℕ))) : Type 0 where
  pub spelled : text ≡ records_of before ++ left
  pub in_range : All IsCertificateWithin before
  pub few : record_count before ≤ max_records

-- the first fault of a text: certificates that are said, and then what is wrong
pub record IsFirstCertificateFault (text : List (List (List ℕ))) (fault : CertTextFault) : Type 0 where
  pub before : List Certificate
  pub left : List (List (List ℕ))
  pub after : IsAfterCertificates before left text
  pub wrong : IsCertificateFaultAfter before left fault

-- a fault of the text itself: neither of its reader nor of memory
abbrev pub IsOfCertificates : CertTextFault → Type 0
IsOfCertificates fault = (fault ≢ Read) × (fault ≢ Memory)
