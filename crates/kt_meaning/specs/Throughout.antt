-- Logs whose committed decisions leave consistent cuts.
use Rattle.std.specs.Prelude.{◌≡◌, ℕ, true, Some, List, slice_get, take}
use Rattle.kt_spacetime.specs.declared.event.Event.{Event}
use Rattle.kt_spacetime.specs.declared.event.Event.TheVariants.{Decided}
use Rattle.kt_meaning.specs.Past.{Past, past, is_checkpoint, is_rollback}
use Rattle.kt_meaning.specs.Cuts.{IsConsistent, checkpoint_cut, rollback_cut}

-- the cut that the members of an instance leave is consistent
pub record LeavesConsistent (s : Past) (k : ℕ) : Type 0 where
  pub checkpoint : is_checkpoint s k ≡ true → IsConsistent s (checkpoint_cut s k)
  pub rollback : is_rollback s k ≡ true → IsConsistent s (rollback_cut s k)

-- so it is just before each committed decision of a log
abbrev pub HasConsistentDecisions : List Event → Type 0
HasConsistentDecisions log =
    (n p k : ℕ) → slice_get log n ≡ Some (Decided p k true) → LeavesConsistent (past (take n log)) k
