-- A process in an undecided checkpoint.
use Rattle.std.specs.Prelude.{◌≡◌, ℕ, ◌==◌, Bool, true, false, Some, None}
use Rattle.kt_spacetime.specs.declared.event.Event.{Event}
use Rattle.kt_spacetime.specs.declared.event.Event.TheVariants.{Decided}
use Rattle.kt_meaning.specs.Past.{Past, is_checkpoint}

-- a process is in an open checkpoint instance that is undecided
pub record IsInCheckpoint (s : Past) (k p : ℕ) : Type 0 where
  pub inside : s.open_in p ≡ Some k
  pub undecided : s.decision k ≡ None
  pub is_kind : is_checkpoint s k ≡ true

-- whether a row decides an instance
abbrev pub decides : Event → ℕ → Bool
decides (Decided p j commit) k = j == k
decides _ k = false
