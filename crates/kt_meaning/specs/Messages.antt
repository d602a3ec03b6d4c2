-- Where a message stands in a log.
use Rattle.std.specs.Prelude.{◌≡◌, ℕ, zero, suc, ℤ, Option, Some, None, List, slice_get}
use Rattle.kt_spacetime.specs.declared.event.Event.{Event}
use Rattle.kt_spacetime.specs.declared.event.Event.TheVariants.{Sent}

-- a row of a log by its number; rows are numbered from 1
abbrev pub row_at : List Event → ℕ → Option Event
row_at log zero = None
row_at log (suc n) = slice_get log n

-- the row of a message's number sent it, from this process to that one
abbrev pub IsMessage : List Event → ℕ → ℕ → ℕ → Type 0
IsMessage log msg from to = (body : ℤ) × (row_at log msg ≡ Some (Sent from to body))
