-- How many senders each process has, and the place of a pair among all that have a parcel.
use Rattle.std.specs.Prelude.{◌≡◌, ℕ, zero, suc, ◌+◌, ◌*◌, ◌≤◌, ◌<◌, Bool, true, if◌then◌else◌, List, slice_index}
use Rattle.kt_fifo.specs.Queues.{has_parcel}
use Rattle.kt_fifo.specs.Channels.{ChannelLists, channel}

-- how many of the first so many numbers pass
unfoldable pub count_first : (ℕ → Bool) → ℕ → ℕ
count_first f zero = 0
count_first f (suc n) = count_first f n + (if f n then 1 else 0)

-- how many pairs pass whose first number is one of the first n, and whose second is one of the first m
unfoldable pub count_pairs : (ℕ → ℕ → Bool) → ℕ → ℕ → ℕ
count_pairs f m zero = 0
count_pairs f m (suc n) = count_pairs f m n + count_first (f n) m

-- the sum of the first so many numbers of a list
unfoldable pub sum_first : List ℕ → ℕ → ℕ
sum_first xs zero = 0
sum_first xs (suc n) = sum_first xs n + slice_index xs n

-- small numbers, and their sums by eights
pub record AreSums (each eights : List ℕ) : Type 0 where
  pub few : (p : ℕ) → slice_index each p ≤ 64
  pub sums : (k : ℕ) → k < 8 → sum_first each (8 * k + 8) ≡ sum_first each (8 * k) + slice_index eights k

-- whether a process has a parcel in transit from another one
abbrev pub waits : ChannelLists → ℕ → ℕ → Bool
waits w to from = has_parcel (channel w from to)

-- how many pairs have a parcel in transit
abbrev pub busy_pairs : ChannelLists → ℕ
busy_pairs w = count_pairs (waits w) w.processes w.processes

-- a pair with a parcel in transit, before which so many others come: by receiver, and then by sender
pub record IsPairAt (w : ChannelLists) (to from place : ℕ) : Type 0 where
  pub receiver : to < w.processes
  pub sender : from < w.processes
  pub waiting : waits w to from ≡ true
  pub before : count_pairs (waits w) w.processes to + count_first (waits w to) from ≡ place
