-- The least sets: which processes a checkpoint and a rollback need.
use Rattle.std.specs.Prelude.{◌≡◌, ◌≢◌, ℕ, ◌≤◌, ◌<◌, Bool, true, false, Option, Some, List, length, slice_get, if◌then◌else◌}
use Rattle.kt_meaning.specs.Past.{Past, is_member, initiator_of}
use Rattle.kt_meaning.specs.Cuts.{IsCut, IsConsistent, checkpoint_cut, rollback_cut}

-- a set of processes has the initiator of an instance
abbrev pub HasInitiator : Past → ℕ → (ℕ → Bool) → Type 0
HasInitiator s k set = (p : ℕ) → initiator_of s k ≡ Some p → set p ≡ true

-- a set of processes has all members of an instance
abbrev pub HasMembers : Past → ℕ → (ℕ → Bool) → Type 0
HasMembers s k set = (p : ℕ) → is_member s k p ≡ true → set p ≡ true

-- a choice for a checkpoint: a set of processes with the initiator, and a cut; outside the set each process stands at its
-- permanent position, inside at its new position or later, or where it has none at its permanent position or later
pub record IsCheckpointChoice (s : Past) (k : ℕ) (set : ℕ → Bool) (cut : ℕ → ℕ) : Type 0 where
  pub initiator : HasInitiator s k set
  pub within : IsCut s cut
  pub outside : (p : ℕ) → set p ≡ false → cut p ≡ s.permanent p
  pub inside : (p : ℕ) → set p ≡ true → checkpoint_cut s k p ≤ cut p

-- the members of a checkpoint are the least set: their cut is consistent, and every consistent choice has them
pub record IsLeastCheckpointSet (s : Past) (k : ℕ) : Type 0 where
  pub consistent : IsConsistent s (checkpoint_cut s k)
  pub least : (set : ℕ → Bool) (cut : ℕ → ℕ) → IsCheckpointChoice s k set cut → IsConsistent s cut → HasMembers s k set

-- the cut that is left where a set of processes rolls back: permanent positions inside, whole histories outside
abbrev pub cut_without : Past → (ℕ → Bool) → ℕ → ℕ
cut_without s set p = if set p then s.permanent p else length (s.live p)

-- the members of a rollback are the least set: their cut is consistent, and every set with the initiator whose cut is
-- consistent has them
pub record IsLeastRollbackSet (s : Past) (k : ℕ) : Type 0 where
  pub consistent : IsConsistent s (rollback_cut s k)
  pub least : (set : ℕ → Bool) → HasInitiator s k set → IsConsistent s (cut_without s set) → HasMembers s k set

-- a process, at this place of a list, has a linking message with an earlier one of the list
pub record LinksEarlier (Links : ℕ → ℕ → ℕ → Type 0) (members : List ℕ) (place p : ℕ) : Type 0 where
  pub earlier : ℕ
  pub before : earlier < place
  pub other : ℕ
  pub there : slice_get members earlier ≡ Some other
  pub msg : ℕ
  pub links : Links p other msg

-- each of the list but the initiator has a linking message with an earlier one
abbrev pub EachLinks : (ℕ → ℕ → ℕ → Type 0) → Option ℕ → List ℕ → Type 0
EachLinks Links initiator members =
    (place p : ℕ) → slice_get members place ≡ Some p → initiator ≢ Some p → LinksEarlier Links members place p
