-- Lists to a process, of which those of some senders are changed already.
use Rattle.std.specs.Prelude.{ℕ, ◌==◌, ◌&&◌, not, if◌then◌else◌, Bool, List}
use Rattle.kt_fifo.specs.declared.parcels.Parcel.{Parcel}
use Rattle.kt_machine.specs.Seen.{SeenLists}

-- what a list becomes, by its sender
abbrev pub Change : Type 0
Change = ℕ → List Parcel → List Parcel

-- the lists to p are changed, but for those of the senders that are left
unfoldable pub changed : (ℕ → Bool) → ℕ → Change → SeenLists → SeenLists
changed left p g lists q u = if u == p && not (left q) then g q (lists q u) else lists q u
