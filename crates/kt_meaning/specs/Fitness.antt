-- Why a log has no certificates.
use Rattle.std.specs.Prelude.{◌≡◌, ◌≢◌, ◌<◌, ◌≤◌, ◌+◌, ℕ, true, false, Some, List, take, slice_get, ⊤}
use Rattle.kt_base.specs.declared.words.Kind.{Kind}
use Rattle.kt_spacetime.specs.declared.event.Event.{Event}
use Rattle.kt_spacetime.specs.declared.event.Event.TheVariants.{Decided}
use Rattle.kt_meaning.specs.Past.{Past, past, kind_of, initiator_of}
use Rattle.kt_meaning.specs.Legal.{IsLegal, first_broken}
use Rattle.kt_meaning.specs.Chains.{members}
use Rattle.kt_meaning.specs.Linking.{links}
use Rattle.kt_spacetime.specs.declared.unfit.CertFault.{CertFault}
use Rattle.kt_spacetime.specs.declared.unfit.CertFault.TheVariants.{BadLog, NoChain, Memory}
use Rattle.kt_spacetime.specs.declared.unfit.Unfit.{Unfit}
use Rattle.kt_spacetime.specs.declared.unfit.Unfit.TheVariants as reason

-- the process at this place has no message that links it with an earlier one of the list
abbrev pub IsUnlinked : Past → ℕ → Kind → List ℕ → ℕ → ℕ → Type 0
IsUnlinked s k kind joined place p = (earlier q msg : ℕ) → earlier < place → slice_get joined earlier ≡ Some q → links s k kind p q msg ≡ false

-- a committed instance has a member other than the initiator that no message links with an earlier one
pub record HasNoChain (log : List Event) (k p : ℕ) : Type 0 where
  pub row : ℕ
  pub decider : ℕ
  pub decided : slice_get log row ≡ Some (Decided decider k true)
  pub kind : Kind
  pub of_kind : kind_of (past (take row log)) k ≡ Some kind
  pub place : ℕ
  pub member : slice_get (members (take row log) k) place ≡ Some p
  pub other : initiator_of (past (take row log)) k ≢ Some p
  pub unlinked : IsUnlinked (past (take row log)) k kind (members (take row log) k) place p

-- when a log has this fault; want of memory says nothing of it
abbrev pub IsFaultOf : List Event → CertFault → Type 0
IsFaultOf log (BadLog n rule) = first_broken log ≡ Some (n, rule)
IsFaultOf log (NoChain k p) = HasNoChain log k p
IsFaultOf log Memory = ⊤

-- a log is fit to be certified: it is legal, and no member of a committed instance lacks a chain
pub record IsFitLog (log : List Event) : Type 0 where
  pub legal : IsLegal log
  pub chained : (k p : ℕ) → HasNoChain log k p → ⊥

-- this row is the first that commits an instance with a member that lacks a chain; rows are numbered from 1; of the
-- members of this instance that lack one it is the first to have joined
pub record IsFirstWithout (log : List Event) (k row p : ℕ) : Type 0 where
  pub lacks : HasNoChain log k p
  pub number : row ≡ lacks.row + 1
  pub earliest : (j q : ℕ) (other : HasNoChain log j q) → lacks.row ≤ other.row
  pub first : (j q : ℕ) (other : HasNoChain log j q) → other.row ≡ lacks.row → lacks.place ≤ other.place

-- why a log is not fit: its first broken row, and the least rule that this breaks; of a legal log the first member that
-- lacks a chain
abbrev pub IsUnfit : List Event → Unfit → Type 0
IsUnfit log (reason.BadLog n rule) = first_broken log ≡ Some (n, rule)
IsUnfit log (reason.NoChain k row p) = IsLegal log × IsFirstWithout log k row p

-- the same of a fault that leaves out the row of a decision; want of memory says nothing of the log
abbrev pub IsWhyUnfit : List Event → CertFault → Type 0
IsWhyUnfit log (BadLog n rule) = first_broken log ≡ Some (n, rule)
IsWhyUnfit log (NoChain k p) = IsLegal log × (row : ℕ) × IsFirstWithout log k row p
IsWhyUnfit log Memory = ⊤
