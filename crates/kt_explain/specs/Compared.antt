-- Certificates beside those that a log means.
use Rattle.std.specs.Prelude.{◌≡◌, ◌<◌, ℕ, zero, suc, Bool, true, false, Option, Some, None, option_map, List, [], length, slice_get}
use Rattle.kt_spacetime.specs.declared.event.Event.{Event}
use Rattle.kt_chain.specs.Spelling.{Member}
use Rattle.kt_spacetime.specs.declared.certificate.Certificate.{Certificate}
use Rattle.kt_meaning.specs.Certificates.{certificates}
use Rattle.kt_spacetime.specs.declared.verdict.Why.{Why}
use Rattle.kt_spacetime.specs.declared.verdict.Why.TheVariants.{BadLog, Unknown, Cause, Members, Orphan}
use Rattle.kt_checker.specs.Judged.{IsFirstOfInstance}
use Rattle.kt_explain.specs.declared.compared.Compared.{Compared}
use Rattle.kt_explain.specs.declared.compared.Differs.{Differs}
use Rattle.kt_explain.specs.declared.compared.Differs.TheVariants.{Record, Second}

-- a reason is about a certificate, or the want of one
abbrev pub IsOfCertificate : Why → Type 0
IsOfCertificate (BadLog rule) = ⊥
IsOfCertificate Cause = ⊥
IsOfCertificate Orphan = ⊥
IsOfCertificate _ = Unit {0}

-- whether it is about the members too
abbrev pub asks_all : Why → Bool
asks_all Unknown = false
asks_all _ = true

-- whether it is about their chains, where it is about the members
abbrev pub asks_chains : Why → Bool
asks_chains Members = false
asks_chains _ = true

-- the records of the instance say the same in two certificates
abbrev pub SameHead : Certificate → Certificate → Type 0
SameHead c d = (c.kind ≡ d.kind) × (c.initiator ≡ d.initiator) × (c.commit ≡ d.commit)

-- what counts of a member: with its chain, or the process alone
abbrev pub counted : Bool → Member → Member
counted true m = m
counted false m = (m.0, [])

-- two lists of members have the same at a place, with their chains or without
abbrev pub SameAt : Bool → List Member → List Member → ℕ → Type 0
SameAt chains listed meant n = option_map (counted chains) (slice_get listed n) ≡ option_map (counted chains) (slice_get meant n)

-- the same at each place
abbrev pub SameMembers : Bool → List Member → List Member → Type 0
SameMembers chains listed meant = (n : ℕ) → SameAt chains listed meant n

-- the first place at which they differ
pub record IsUnlikeAt (chains : Bool) (listed meant : List Member) (index : ℕ) : Type 0 where
  pub differ : SameAt chains listed meant index → ⊥
  pub first : (n : ℕ) → n < index → SameAt chains listed meant n

-- the first record in which two certificates of an instance differ: at 0 that of the instance, from 1 on those of members,
-- with their chains or without
abbrev pub DifferAt : Bool → Certificate → Certificate → ℕ → Type 0
DifferAt chains c d zero = ¬ SameHead c d
DifferAt chains c d (suc index) = SameHead c d × IsUnlikeAt chains c.members d.members index

-- the same where one of them may be missing, which lacks the first record
abbrev pub DifferIn : Bool → Option Certificate → Option Certificate → ℕ → Type 0
DifferIn chains None None place = ⊥
DifferIn chains None (Some d) place = place ≡ 0
DifferIn chains (Some c) None place = place ≡ 0
DifferIn chains (Some c) (Some d) place = DifferAt chains c d place

-- two certificates have the same record of the instance, and the same members, where these count or it is aborted
pub record AreSame (all chains : Bool) (c d : Certificate) : Type 0 where
  pub head : SameHead c d
  pub members : all ≡ true → SameMembers chains c.members d.members
  pub aborted : c.commit ≡ false → SameMembers chains c.members d.members

-- the same where both may be missing
abbrev pub AreAlike : Bool → Bool → Option Certificate → Option Certificate → Type 0
AreAlike all chains None None = Unit {0}
AreAlike all chains None (Some d) = ⊥
AreAlike all chains (Some c) None = ⊥
AreAlike all chains (Some c) (Some d) = AreSame all chains c d

-- the certificate at a place of a list, if there is one
abbrev pub certificate_at : List Certificate → Option ℕ → Option Certificate
certificate_at list None = None
certificate_at list (Some i) = slice_get list i

-- the place of the first certificate of an instance, or that there is none
abbrev pub IsFirstAt : List Certificate → ℕ → Option ℕ → Type 0
IsFirstAt list k place = IsFirstOfInstance list (length list) k place

-- a certificate of an instance stands at this place, after the first one
pub record IsSecondAt (list : List Certificate) (k : ℕ) (first : Option ℕ) (place : ℕ) : Type 0 where
  pub before : ℕ
  pub first_is : first ≡ Some before
  pub after : before < place
  pub certificate : Certificate
  pub there : slice_get list place ≡ Some certificate
  pub of_instance : certificate.inst ≡ k

-- no certificate of an instance stands after the first one
abbrev pub IsAlone : List Certificate → ℕ → Option ℕ → Type 0
IsAlone list k first =
    (before n : ℕ) (c : Certificate) → first ≡ Some before → before < n → slice_get list n ≡ Some c → c.inst ≡ k → ⊥

-- in what the certificates of an instance differ, of which the first ones stand at these places: in this record, the first
-- that does, with or without the chains; or in nothing that counts, but there is a second one of the instance
abbrev pub IsDifference : List Certificate → ℕ → Option ℕ → List Certificate → Option ℕ → Differs → Type 0
IsDifference list k has meant means (Record place chains) =
    DifferIn chains (certificate_at list has) (certificate_at meant means) place
IsDifference list k has meant means (Second place) = IsSecondAt list k has place

-- the certificate of an instance in a list, and the one that the log means
pub record IsCompared (rows : List Event) (list : List Certificate) (c : Compared) : Type 0 where
  pub meant : c.meant.items ≡ certificates rows
  pub has : IsFirstAt list c.inst c.has
  pub means : IsFirstAt c.meant.items c.inst c.means
  pub differs : IsDifference list c.inst c.has c.meant.items c.means c.differs
