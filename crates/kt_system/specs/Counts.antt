-- The take at a place among all that there are.
use Rattle.std.specs.Prelude.{◌≡◌, ℕ, ◌+◌, ◌<◌, true}
use Rattle.kt_fifo.specs.Counts.{count_first, count_pairs}
use Rattle.kt_system.specs.Systems.{Whole}
use Rattle.kt_system.specs.Reads.{can_take}

-- how many takes there are: pairs of processes of which the first can take a parcel of the second
abbrev pub takes_in : Whole → ℕ
takes_in w = count_pairs (can_take w) w.size w.size

-- a take before which so many others come: by process, and then by sender
pub record IsTakeAt (w : Whole) (at from place : ℕ) : Type 0 where
  pub taker : at < w.size
  pub sender : from < w.size
  pub takeable : can_take w at from ≡ true
  pub before : count_pairs (can_take w) w.size at + count_first (can_take w at) from ≡ place
