-- Which processes have a lane.
use Rattle.std.specs.Prelude.{ℕ, ◌||◌, ◌==◌, Bool, List, filter, count_by, nat_lt}
use Rattle.std.specs.List.{list_any, range_with_len}
use Rattle.kt_spacetime.specs.declared.event.Event.{Event}
use Rattle.kt_spacetime.specs.declared.event.Event.TheVariants.{Sent, Received, Dropped}
use Rattle.kt_spacetime.specs.Events.{process_of}

-- whether a row names a process
abbrev pub names_process : ℕ → Event → Bool
names_process q (Sent p to body) = p == q || to == q
names_process q (Received p from msg) = p == q || from == q
names_process q (Dropped p from msg) = p == q || from == q
names_process q row = process_of row == q

-- whether one of these rows names a process
abbrev pub is_named : List Event → ℕ → Bool
is_named rows q = list_any (names_process q) rows

-- the processes that rows name, by rising number: each has a lane, from above in this order
abbrev pub lanes_in : List Event → List ℕ
lanes_in rows = filter (is_named rows) (range_with_len 0 64)

-- the lane of a process, from 0: how many lanes are of lesser processes
abbrev pub lane_of : List ℕ → ℕ → ℕ
lane_of lanes p = count_by (λ q. nat_lt q p) lanes
