-- What the certificates of a log mean, in the words of members and chains.
use Rattle.std.specs.Prelude.{◌≡◌, ◌≢◌, ◌<◌, ℕ, Bool, true, Some, List, [], ◌↔◌, map, take, slice_get}
use Rattle.kt_spacetime.specs.declared.event.Event.{Event}
use Rattle.kt_spacetime.specs.declared.event.Event.TheVariants.{Decided}
use Rattle.kt_meaning.specs.Past.{Past, past}
use Rattle.kt_meaning.specs.Chains.{members}
use Rattle.kt_spacetime.specs.declared.certificate.Certificate.{Certificate}
use Rattle.kt_meaning.specs.Passing.{IsAsInLog, HasCertificate}
use Rattle.kt_meaning.specs.Making.{FollowsFirst}

-- a row of a log decides an instance
abbrev pub IsDecided : List Event → ℕ → Type 0
IsDecided log k =
    (n : ℕ) × (p : ℕ) × (commit : Bool) × (slice_get log n ≡ Some (Decided p k commit))

-- the chain of a member, p, that a certificate has at a place, by what is known just before the decision
pub record IsChainOf (s : Past) (c : Certificate) (place p : ℕ) (chain : List ℕ) : Type 0 where
  -- the initiator's is empty
  pub none : p ≡ c.initiator → chain ≡ []
  -- another's is that of the first earlier member that a message links with it, followed by the least such message
  pub made : p ≢ c.initiator → FollowsFirst s c.inst c.kind (take place c.members) p chain

-- a certificate says of its instance what the log does
pub record IsMeant (log : List Event) (c : Certificate) : Type 0 where
  -- a row decides the instance; kind, initiator and decision are as the log has them; an aborted one has no members
  pub row : ℕ
  pub instance : IsAsInLog log c row
  -- a committed one has the log's members, in the order in which they joined
  pub listed : c.commit ≡ true → map (λ m. m.0) c.members ≡ members log c.inst
  -- each with its chain
  pub chains : (place p : ℕ) (chain : List ℕ) → slice_get c.members place ≡ Some (p, chain)
      → IsChainOf (past (take row log)) c place p chain

-- these certificates are what a log means
pub record AreMeant (log : List Event) (list : List Certificate) : Type 0 where
  -- each decided instance has one, and no other instance does
  pub complete : (k : ℕ) → IsDecided log k ↔ HasCertificate list k
  -- they rise by instance number, so that no instance has two
  pub rising : (i j : ℕ) (c d : Certificate) → i < j
      → slice_get list i ≡ Some c → slice_get list j ≡ Some d → c.inst < d.inst
  -- each says what the log does
  pub each : (i : ℕ) (c : Certificate) → slice_get list i ≡ Some c → IsMeant log c
