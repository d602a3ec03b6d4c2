-- Logs whose decisions the checker has nothing against.
use Rattle.std.specs.Prelude.{◌≡◌, ℕ, Bool, not, Some, List, slice_get}
use Rattle.kt_spacetime.specs.declared.event.Event.{Event}
use Rattle.kt_spacetime.specs.declared.event.Event.TheVariants.{Decided}
use Rattle.kt_meaning.specs.Throughout.{HasConsistentDecisions}
use Rattle.kt_meaning.specs.Unwilling.{has_unwilling}

-- each aborted instance of a log, and no committed one, has an unwilling row
abbrev pub HasCauses : List Event → Type 0
HasCauses log = (n p k : ℕ) (commit : Bool) → slice_get log n ≡ Some (Decided p k commit) → has_unwilling log k ≡ not commit

-- the same, and no committed decision leaves an orphan
pub record IsJust (log : List Event) : Type 0 where
  pub consistent : HasConsistentDecisions log
  pub causes : HasCauses log
