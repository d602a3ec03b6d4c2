-- The rows that a step tells.
use Rattle.std.specs.Prelude.{ℕ, List, [], ◌∷◌, ◌+◌, Option}
use Rattle.kt_core.specs.Worlds.{numbered_row}
use Rattle.kt_spacetime.specs.declared.event.Event.{Event}

-- the four rows after the first so many, with their numbers, as far as there are any
abbrev pub four_rows : List Event → ℕ → List (Option (ℕ × Event))
four_rows rows count = numbered_row rows count ∷ numbered_row rows (count + 1) ∷ numbered_row rows (count + 2) ∷ numbered_row rows (count + 3) ∷ []
