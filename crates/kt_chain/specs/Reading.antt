-- What is known while certificates are read.
use Rattle.std.specs.Prelude.{◌≡◌, ◌<◌, ◌≤◌, ◌⊎◌, ℕ, List, [], ◌∷◌, ◌++◌, Option, Some, None, All, length}
use Rattle.csv.specs.declared.reader.Reader.{Reader}
use Rattle.kt_text.specs.Records.{left_in, ReadsOn}
use Rattle.kt_spacetime.specs.declared.certificate.Certificate.{Certificate}
use Rattle.kt_chain.specs.declared.records.RecordFault.{RecordFault}
use Rattle.kt_chain.specs.declared.records.RecordFault.TheVariants as fault
use Rattle.kt_chain.specs.Spelling.{IsCertificateWithin, records_of, most_messages}
use Rattle.kt_chain.specs.Texts.{IsAfterCertificates, record_count, max_records}

-- want of memory, or this
abbrev pub OrMemory : RecordFault → Type 0 → Type 0
OrMemory f P = (f ≡ fault.Memory) ⊎ P

-- these messages, or none where they are more than a chain may have
abbrev pub IsIfFew : List ℕ → Option (List ℕ) → Type 0
IsIfFew messages None = most_messages < length messages
IsIfFew messages (Some chain) = chain ≡ messages

-- a record was taken: the certificates say it beside what they said
pub record CertificateTaken (old new : List Certificate) (fields : List (List ℕ)) : Type 0 where
  pub spelled : records_of new ≡ records_of old ++ fields ∷ []
  pub in_range : All IsCertificateWithin old → All IsCertificateWithin new

-- a text, where it is known, begins with the records of these certificates, and what is left is known too
abbrev pub BeginsWithCertificates : Option (List (List (List ℕ))) → Option (List (List (List ℕ))) → List Certificate → Type 0
BeginsWithCertificates None left certificates = Unit {0}
BeginsWithCertificates (Some text) None certificates = ⊥
BeginsWithCertificates (Some text) (Some left) certificates = IsAfterCertificates certificates left text

-- what is known while certificates are gathered
pub record GathersCertificates {R : Type 0} (remaining : R → Option (List ℕ)) (text : Option (List (List (List ℕ)))) (reader : Reader R) (count : ℕ) (certificates : List Certificate) : Type 0 where
  pub reading : ReadsOn reader
  pub begins : BeginsWithCertificates text (left_in remaining reader) certificates
  pub in_range : All IsCertificateWithin certificates
  pub counted : count ≡ record_count certificates
  pub few : count ≤ max_records
