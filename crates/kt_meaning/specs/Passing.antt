-- When a certificate passes.
use Rattle.std.specs.Prelude.{◌≡◌, ◌≢◌, ◌<◌, ℕ, Bool, true, false, not, Some, List, [], ◌↔◌, map, take, length, slice_get, Contains}
use Rattle.kt_base.specs.declared.words.Kind.{Kind}
use Rattle.kt_base.specs.declared.words.Kind.TheVariants.{Checkpoint, Rollback}
use Rattle.kt_spacetime.specs.declared.event.Event.{Event}
use Rattle.kt_spacetime.specs.declared.event.Event.TheVariants.{Decided}
use Rattle.kt_meaning.specs.Past.{Past, past, kind_of, initiator_of}
use Rattle.kt_meaning.specs.Legal.{IsLegal}
use Rattle.kt_meaning.specs.Cuts.{IsConsistent, permanent_cut, present_cut, checkpoint_cut, rollback_cut}
use Rattle.kt_meaning.specs.Chains.{members, IsCheckpointChain, IsRollbackChain}
use Rattle.kt_spacetime.specs.declared.certificate.Certificate.{Certificate}
use Rattle.kt_meaning.specs.Unwilling.{has_unwilling}

-- the cut that a committed decision of an instance makes
abbrev pub decided_cut : Past → ℕ → Kind → ℕ → ℕ
decided_cut s k Checkpoint = checkpoint_cut s k
decided_cut s k Rollback = rollback_cut s k

-- the cut that a committed decision of this kind begins with
abbrev pub earlier_cut : Past → Kind → ℕ → ℕ
earlier_cut s Checkpoint = permanent_cut s
earlier_cut s Rollback = present_cut s

-- a chain from a process to another, of an instance of this kind
abbrev pub IsChain : Past → ℕ → Kind → ℕ → List ℕ → ℕ → Type 0
IsChain s k Checkpoint q chain p = IsCheckpointChain s k q chain p
IsChain s k Rollback q chain p = IsRollbackChain s q chain p

-- a member's list: empty for the initiator, a chain from the initiator for another
pub record IsListOf (s : Past) (k : ℕ) (kind : Kind) (initiator p : ℕ) (chain : List ℕ) : Type 0 where
  pub none : p ≡ initiator → chain ≡ []
  pub leads : p ≢ initiator → IsChain s k kind initiator chain p

-- each list of a certificate is one of its member
abbrev pub HasLists : Past → Certificate → Type 0
HasLists s c = (i p : ℕ) (chain : List ℕ) → slice_get c.members i ≡ Some (p, chain) → IsListOf s c.inst c.kind c.initiator p chain

-- of a rollback, these are the processes that have a ready row of it
abbrev pub ListsReadyOf : Past → Certificate → List ℕ → Type 0
ListsReadyOf s certificate joined =
    certificate.kind ≡ Rollback → (p : ℕ) → (s.ready certificate.inst p ≡ true) ↔ Contains joined p

-- a certificate of a rollback lists exactly the processes that have a ready row of it
abbrev pub ListsReady : Past → Certificate → Type 0
ListsReady s certificate = ListsReadyOf s certificate (map (λ m. m.0) certificate.members)

-- what a certificate claims of a committed instance, just before its decision
pub record IsShownBefore (s : Past) (certificate : Certificate) (joined : List ℕ) : Type 0 where
  pub members : map (λ m. m.0) certificate.members ≡ joined
  pub lists : HasLists s certificate
  pub consistent : IsConsistent s (decided_cut s certificate.inst certificate.kind)

-- a certificate is of an instance that this row decides, as the log has it; of an aborted one it lists no members
pub record IsAsInLog (log : List Event) (certificate : Certificate) (row : ℕ) : Type 0 where
  pub process : ℕ
  pub decided : slice_get log row ≡ Some (Decided process certificate.inst certificate.commit)
  pub kind : kind_of (past (take row log)) certificate.inst ≡ Some certificate.kind
  pub initiator : initiator_of (past (take row log)) certificate.inst ≡ Some certificate.initiator
  pub no_members : certificate.commit ≡ false → certificate.members ≡ []

-- a certificate passes: it is of a decided instance as the log has it, it is committed exactly where no process was
-- unwilling, and what it claims of a committed one is so
pub record Passes (log : List Event) (certificate : Certificate) : Type 0 where
  pub row : ℕ
  pub instance : IsAsInLog log certificate row
  pub cause : has_unwilling log certificate.inst ≡ not certificate.commit
  pub shown : certificate.commit ≡ true → IsShownBefore (past (take row log)) certificate (members log certificate.inst)

-- an earlier certificate of a list is of the same instance
abbrev pub IsSecond : List Certificate → ℕ → Certificate → Type 0
IsSecond certificates i c = (j : ℕ) × (other : Certificate) × (j < i) × (slice_get certificates j ≡ Some other) × (other.inst ≡ c.inst)

-- the first certificates of a list pass, and are of different instances
abbrev pub PassBefore : List Event → List Certificate → ℕ → Type 0
PassBefore log certificates n = (i : ℕ) (c : Certificate) → i < n → slice_get certificates i ≡ Some c → Passes log c × (IsSecond certificates i c → ⊥)

-- a list has a certificate of an instance
abbrev pub HasCertificate : List Certificate → ℕ → Type 0
HasCertificate certificates k = (i : ℕ) × (c : Certificate) × (slice_get certificates i ≡ Some c) × (c.inst ≡ k)

-- each decided instance of a log has a certificate
abbrev pub AreComplete : List Event → List Certificate → Type 0
AreComplete log certificates = (n p k : ℕ) (commit : Bool) → slice_get log n ≡ Some (Decided p k commit) → HasCertificate certificates k

-- what a yes knows: the log is legal, every certificate passes and is the only one of its instance, and each decided
-- instance has one
pub record IsPassed (log : List Event) (certificates : List Certificate) : Type 0 where
  pub legal : IsLegal log
  pub pass : PassBefore log certificates (length certificates)
  pub complete : AreComplete log certificates
