-- The last row that passes a test, of the first rows of a log.
use Rattle.std.proofs.Common.{◌≡◌, ◌<◌, ℕ, true, Some, None, Option, List}
use Rattle.std.specs.List.{slice_get}
use Rattle.kt_spacetime.specs.declared.event.Event.{Event}
use Rattle.std.specs.Prelude.{Bool, ◌+◌}

-- the number of the last row that passes a test of the first so many, or that there is none
abbrev pub IsLastBelow : (Event → Bool) → List Event → ℕ → Option ℕ → Type 0
IsLastBelow test rows count None = (n : ℕ) (row : Event) → n < count → slice_get rows n ≡ Some row → test row ≡ true → ⊥
IsLastBelow test rows count (Some number) =
    (place : ℕ) × (row : Event) × (number ≡ place + 1) × (slice_get rows place ≡ Some row) × (test row ≡ true)
    × ((n : ℕ) (other : Event) → place < n → n < count → slice_get rows n ≡ Some other → test other ≡ true → ⊥)
