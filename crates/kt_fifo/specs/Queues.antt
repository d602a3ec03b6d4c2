-- A list of parcels with room.
use Rattle.std.specs.Prelude.{ℕ, Bool, true, false, List, [], ◌∷◌}
use Rattle.kt_fifo.specs.declared.parcels.Parcel.{Parcel}

-- the parcels, the oldest first, and how many more there is room for
pub record Queue : Type 0 where
  pub parcels : List Parcel
  pub spare : ℕ

-- whether there is a parcel
abbrev pub has_parcel : List Parcel → Bool
has_parcel [] = false
has_parcel (x ∷ xs) = true

-- a list and room of nothing
abbrev pub no_queue : Queue
no_queue = record { parcels = []; spare = 0 }
