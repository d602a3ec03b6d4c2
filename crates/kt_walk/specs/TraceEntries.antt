-- The messages of pairs of processes, with their numbers and their traces.
use Rattle.std.specs.Prelude.{ℕ, ◌+◌, Some, None, List, [], ◌∷◌, ◌++◌, map}
use Rattle.kt_rules.specs.declared.traces.Trace.{Trace}
use Rattle.kt_walk.specs.declared.in_transit.Sent.{Sent}
use Rattle.kt_walk.specs.declared.queue.Arrival.{Arrival}
use Rattle.kt_walk.specs.declared.received_from.Undone.{Undone}
use Rattle.kt_walk.specs.Arrivals.{ReceivedParts}
use Rattle.kt_walk.specs.Pairs.{PairState}

-- a message in transit; places of traces count from 1
abbrev pub transit_entry : ReceivedParts → Sent → ℕ × Trace
transit_entry v w = (w.msg, record { from = v.sender; to = v.receiver; sent = Some (w.place + 1); received = None })

-- a message that is received, and whose send is live
abbrev pub arrival_entry : ReceivedParts → Arrival → ℕ × Trace
arrival_entry v a = (a.msg, record { from = v.sender; to = v.receiver; sent = Some (a.sent + 1); received = Some (a.received + 1) })

-- a message that is received, and whose send was undone
abbrev pub undone_entry : ReceivedParts → Undone → ℕ × Trace
undone_entry v u = (u.msg, record { from = v.sender; to = v.receiver; sent = None; received = Some (u.received + 1) })

-- what is kept of a message with these places, counted from 1
abbrev pub trace_at : ReceivedParts → ℕ × ℕ → Trace
trace_at v places = record { from = v.sender; to = v.receiver; sent = Some places.0; received = Some places.1 }

-- the number of an arrival
abbrev pub number_of : Arrival → ℕ
number_of a = a.msg

-- the messages from one process to another
abbrev pub entries_of : PairState → List (ℕ × Trace)
entries_of v = map (transit_entry v.received_from) v.in_transit ++ (map (arrival_entry v.received_from) v.received_from.arrivals ++ map (undone_entry v.received_from) v.received_from.undone)

-- those of all pairs of processes
abbrev pub entries_of_all : List PairState → List (ℕ × Trace)
entries_of_all [] = []
entries_of_all (v ∷ pair_states) = entries_of v ++ entries_of_all pair_states
