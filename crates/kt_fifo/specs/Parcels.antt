-- Which parcels a rollback takes out of a list.
use Rattle.std.specs.Prelude.{ℕ, nat_le, Bool, true, List, filter}
use Rattle.kt_fifo.specs.declared.parcels.Parcel.{Parcel}
use Rattle.kt_fifo.specs.declared.parcels.Parcel.TheVariants.{App, Ask, Reply, Decide}

-- whether a parcel stays where the application messages above a label go
abbrev pub stays : ℕ → Parcel → Bool
stays most (App label msg body) = nat_le label most
stays most (Ask inst kind label) = true
stays most (Reply inst willing) = true
stays most (Decide inst commit) = true

-- a list without its application messages above a label
abbrev pub without_above : ℕ → List Parcel → List Parcel
without_above most parcels = filter (stays most) parcels
