-- Which row comes next.
use Rattle.std.specs.Prelude.{◌≡◌, ◌<◌, ◌≤◌, ◌⊎◌, ℕ, Option, Some, None, Ok, List, length, slice_get}
use Rattle.kt_spacetime.specs.declared.named_rows.ClockedRow.{ClockedRow}
use Rattle.kt_merge.specs.Reading.{PartRead, StepsPart}

-- a row comes before another, or as it: by clock, then by process
abbrev pub IsNotLater : ClockedRow → ClockedRow → Type 0
IsNotLater a b = (a.clock < b.clock) ⊎ ((a.clock ≡ b.clock) × (a.row.p ≤ b.row.p))

-- of the next rows of all parts, the one that comes first: the least clock, and of several the first part
pub record IsLeastHead (heads : List (Option ClockedRow)) (i : ℕ) (row : ClockedRow) : Type 0 where
  pub is : slice_get heads i ≡ Some (Some row)
  pub least : (j : ℕ) (other : ClockedRow) → slice_get heads j ≡ Some (Some other) → (row.clock < other.clock) ⊎ ((row.clock ≡ other.clock) × (i ≤ j))

-- no part has a next row
abbrev pub HasNoHead : List (Option ClockedRow) → Type 0
HasNoHead heads = (j : ℕ) (other : ClockedRow) → slice_get heads j ≡ Some (Some other) → ⊥

-- the same among the parts before a number
abbrev pub IsBestTo : List (Option ClockedRow) → ℕ → Option (ℕ × ClockedRow) → Type 0
IsBestTo heads n None = (j : ℕ) (other : ClockedRow) → j < n → slice_get heads j ≡ Some (Some other) → ⊥
IsBestTo heads n (Some (i, row)) = (i < n) × (slice_get heads i ≡ Some (Some row))
    × ((j : ℕ) (other : ClockedRow) → j < n → slice_get heads j ≡ Some (Some other) → (row.clock < other.clock) ⊎ ((row.clock ≡ other.clock) × (i ≤ j)))

-- the same by its clock
abbrev pub IsBestClock : List (Option ClockedRow) → ℕ → Option (ℕ × ℕ) → Type 0
IsBestClock heads n None = IsBestTo heads n None
IsBestClock heads n (Some (i, clock)) = (row : ClockedRow) × (row.clock ≡ clock) × IsBestTo heads n (Some (i, row))

-- a call of each reader gave these next rows
pub record GiveHeads (old new : List PartRead) (heads : List (Option ClockedRow)) : Type 0 where
  pub many : (length new ≡ length old) × (length heads ≡ length old)
  pub each : (p : ℕ) (was is : PartRead) (head : Option ClockedRow) → slice_get old p ≡ Some was → slice_get new p ≡ Some is → slice_get heads p ≡ Some head → StepsPart was is (Ok head)
