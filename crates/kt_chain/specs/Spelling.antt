-- How certificates are spelled by the records of a text.
use Rattle.std.specs.Prelude.{◌≤◌, ℕ, List, [], ◌∷◌, codes, map, length, All}
use Rattle.std.specs.List.{flat_map, join_with_byte}
use Rattle.std.specs.Fmt.{decimal}
use Rattle.kt_base.specs.Numbers.{IsProcNo, IsMsgNo, IsInstNo}
use Rattle.kt_text.specs.Words.{kind_word, decision_word}
use Rattle.kt_spacetime.specs.declared.certificate.Certificate.{Certificate}

-- a member and the messages of its chain
abbrev pub Member : Type 0
Member = ℕ × List ℕ

-- how a chain is spelled: its numbers joined by `/`, or `-` for none
abbrev pub chain_word : List ℕ → List ℕ
chain_word [] = codes "-"
chain_word (msg ∷ messages) = join_with_byte 47 (map decimal (msg ∷ messages))

-- the numbers of some messages, with a `/` before each
abbrev pub marked : List ℕ → List ℕ
marked messages = flat_map (λ (msg : ℕ). 47 ∷ decimal msg) messages

-- the record of an instance: its number, its kind, its initiator and how it was decided
abbrev pub instance_record : Certificate → List (List ℕ)
instance_record c = codes "cert" ∷ decimal c.inst ∷ kind_word c.kind ∷ decimal c.initiator ∷ decision_word c.commit ∷ []

-- the record of a member of an instance: the instance, the process, the length of its chain and the chain
abbrev pub member_record : ℕ → Member → List (List ℕ)
member_record inst member = codes "member" ∷ decimal inst ∷ decimal member.0 ∷ decimal (length member.1) ∷ chain_word member.1 ∷ []

-- the records of a certificate: that of its instance, then one for each member in order
abbrev pub certificate_records : Certificate → List (List (List ℕ))
certificate_records c = instance_record c ∷ map (member_record c.inst) c.members

-- the records of some certificates, in order
abbrev pub records_of : List Certificate → List (List (List ℕ))
records_of certificates = flat_map certificate_records certificates

-- the greatest length of a chain in a text
abbrev pub most_messages : ℕ
most_messages = 63

-- a member's process and messages are in their ranges, and the messages are few enough
pub record IsMemberInRange (member : Member) : Type 0 where
  pub process : IsProcNo member.0
  pub messages : All IsMsgNo member.1
  pub few : length member.1 ≤ most_messages

-- every number of a certificate is in its range
pub record IsCertificateWithin (c : Certificate) : Type 0 where
  pub inst : IsInstNo c.inst
  pub initiator : IsProcNo c.initiator
  pub members : All IsMemberInRange c.members

-- no chain of a certificate is too long for a text
abbrev pub HasShortChains : Certificate → Type 0
HasShortChains c = All (λ (member : Member). length member.1 ≤ most_messages) c.members
