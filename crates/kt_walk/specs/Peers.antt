-- Sets of ordered pairs of processes, as a word for each receiver.
use Rattle.std.specs.Prelude.{ℕ, ◌/◌, ◌%◌, Bool, List, slice_index}
use Rattle.kt_base.specs.Sets.{has}

-- whether the pair at a place, by receiver and then by sender, is in a set
abbrev pub is_in : List ℕ → ℕ → Bool
is_in peers place = has (slice_index peers (place / 64)) (place % 64)
