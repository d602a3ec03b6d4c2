use Rattle.std.proofs.Common.{◌≡◌, ◌≤◌, ◌+◌, ◌++◌, length}
use Rattle.kt_fifo.proofs.fifo.Fifo.put_before.Given as goal

abbrev pub invariant-loop-parcel : goal.invariant-loop-parcel
invariant-loop-parcel l =
    (l.other.parcels ++ l.self.parcels ≡ l.initial.other.parcels ++ l.initial.self.parcels)
    × (l.self.spare + length l.initial.other.parcels ≡ l.initial.self.spare + length l.other.parcels)
    × (l.other.spare + length l.other.parcels ≡ l.initial.other.spare + length l.initial.other.parcels)
    × (length l.other.parcels ≤ l.self.spare)

abbrev pub decreases-loop-parcel : goal.decreases-loop-parcel
decreases-loop-parcel l = length l.other.parcels
