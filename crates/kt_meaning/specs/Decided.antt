-- What is so of the log of every run.
use Rattle.std.specs.Prelude.{◌≡◌, ◌↔◌, ℕ, ◌+◌, Bool, true, false, Some, List, slice_get, take, drop, unwrap_or}
use Rattle.kt_base.specs.declared.words.Cause.{Cause}
use Rattle.kt_base.specs.declared.words.Cause.TheVariants.{Busy, Down, NoSave}
use Rattle.kt_spacetime.specs.declared.event.Event.{Event}
use Rattle.kt_spacetime.specs.declared.event.Event.TheVariants.{Unwilling, Decided}
use Rattle.kt_spacetime.specs.declared.deeds.Deed.TheVariants as deed
use Rattle.kt_meaning.specs.Past.{Past, past, is_checkpoint, is_rollback, is_member, initiator_of}
use Rattle.kt_meaning.specs.Legal.{has_deed}
use Rattle.kt_meaning.specs.Chains.{members, LinksCheckpoint, LinksRollback, is_sent_past}
use Rattle.kt_meaning.specs.Least.{IsLeastCheckpointSet, IsLeastRollbackSet, EachLinks}

-- the members of a decided instance are bound to its initiator by messages
pub record Links (log : List Event) (k : ℕ) : Type 0 where
  pub checkpoint : is_checkpoint (past log) k ≡ true → EachLinks (LinksCheckpoint (past log) k) (initiator_of (past log) k) (members log k)
  pub rollback : is_rollback (past log) k ≡ true → EachLinks (LinksRollback (past log)) (initiator_of (past log) k) (members log k)

-- the members of a committed instance are the least set
pub record IsLeast (log : List Event) (k : ℕ) : Type 0 where
  pub checkpoint : is_checkpoint (past log) k ≡ true → IsLeastCheckpointSet (past log) k
  pub rollback : is_rollback (past log) k ≡ true → IsLeastRollbackSet (past log) k

-- so it is just before each decision, committed or not
abbrev pub HasLinkedDecisions : List Event → Type 0
HasLinkedDecisions log = (n p k : ℕ) (commit : Bool) → slice_get log n ≡ Some (Decided p k commit) → Links (take n log) k

-- so it is just before each committed decision
abbrev pub HasLeastDecisions : List Event → Type 0
HasLeastDecisions log = (n p k : ℕ) → slice_get log n ≡ Some (Decided p k true) → IsLeast (take n log) k

-- some process was unwilling to join an instance
abbrev pub HasUnwilling : List Event → ℕ → Type 0
HasUnwilling log k = (n : ℕ) × (p : ℕ) × (cause : Cause) × (slice_get log n ≡ Some (Unwilling p k cause))

-- a decided instance is aborted exactly where a process was unwilling
abbrev pub AbortsWhereUnwilling : List Event → Type 0
AbortsWhereUnwilling log = (n p k : ℕ) (commit : Bool) → slice_get log n ≡ Some (Decided p k commit) → (commit ≡ false) ↔ HasUnwilling log k

-- the decision of an aborted instance changes no live history and no permanent position
abbrev pub AbortsChangeNothing : List Event → Type 0
AbortsChangeNothing log = (n p k q : ℕ) → slice_get log n ≡ Some (Decided p k false) →
    ((past (take (n + 1) log)).live q ≡ (past (take n log)).live q) × ((past (take (n + 1) log)).permanent q ≡ (past (take n log)).permanent q)

-- whether a cause is another instance, and not the process's own object
abbrev pub is_busy : Cause → Bool
is_busy (Busy j) = true
is_busy Down = false
is_busy NoSave = false

-- a process is unwilling where a member asked it: in a checkpoint that member received a message of it past its permanent
-- position and within its new one, in a rollback it sent it a message past its permanent position; a process that could
-- have joined but for its own object has a linking message with that member
pub record IsJustified (s : Past) (p k : ℕ) (cause : Cause) : Type 0 where
  pub asker : ℕ
  pub member : is_member s k asker ≡ true
  pub msg : ℕ
  pub received : is_checkpoint s k ≡ true → has_deed (deed.Received msg p) (drop (s.permanent asker) (take (unwrap_or (s.new k asker) 0) (s.live asker))) ≡ true
  pub sent : is_rollback s k ≡ true → is_sent_past s asker p msg ≡ true
  pub linked : is_busy cause ≡ false → LinksCheckpoint s k p asker msg

-- so it is just before each unwilling row
abbrev pub JustifiesUnwilling : List Event → Type 0
JustifiesUnwilling log = (n p k : ℕ) (cause : Cause) → slice_get log n ≡ Some (Unwilling p k cause) → IsJustified (past (take n log)) p k cause
