-- How a node meets what comes of a process, before its manager takes it.
use Rattle.std.specs.Prelude.{ℕ, ◌+◌, ◌-◌, ◌==◌, ◌&&◌, ◌||◌, not, nat_lt, nat_le, max, if◌then◌else◌, Bool, true, false, Option, Some, None, Result, Ok, Err, List, length, slice_get, slice_index}
use Rattle.kt_manager.specs.declared.parcels.NodeParcel.{NodeParcel}
use Rattle.kt_manager.specs.declared.parcels.NodeParcel.TheVariants.{App, Ask, Reply, Decide}
use Rattle.kt_node.specs.declared.node.Envelope.{Envelope}
use Rattle.kt_node.specs.declared.node.NodeFault.{NodeFault}
use Rattle.kt_node.specs.declared.node.NodeFault.TheVariants as fault
use Rattle.kt_manager.specs.Managers.{as_parcels}
use Rattle.kt_manager.specs.Inboxes as kept_lists
use Rattle.kt_node.specs.Links.{NodeLinks}

-- how far a clock or a label may be above the one that a node has: 2^40
abbrev pub far : ℕ
far = 1099511627776

abbrev pub is_far : ℕ → ℕ → Bool
is_far had came = nat_lt (had + far) came

-- the label of a message, 0 for none
abbrev pub label_of : Option NodeParcel → ℕ
label_of None = 0
label_of (Some (App label body)) = label
label_of (Some (Ask k kind label)) = 0
label_of (Some (Reply k willing)) = 0
label_of (Some (Decide k c)) = 0

-- what a node holds of a process, and the label at a place of it
abbrev pub held_of : NodeLinks → ℕ → List NodeParcel
held_of w q = as_parcels (kept_lists.held_of w.manager.inbox) q

abbrev pub held_label : NodeLinks → ℕ → ℕ → ℕ
held_label w q place = label_of (slice_get (held_of w q) place)

-- the greatest label that its live history received of a process, and the last one that it has of it
abbrev pub received_label : NodeLinks → ℕ → ℕ
received_label w q = slice_index w.reaches.live.received q

abbrev pub last_label : NodeLinks → ℕ → ℕ
last_label w q = max (received_label w q) (held_label w q (length (held_of w q) - 1))

-- a message has a label that is too far above this one, and one that does not rise above it
abbrev pub is_far_message : ℕ → NodeParcel → Bool
is_far_message had (App label body) = is_far had label
is_far_message had (Ask k kind label) = false
is_far_message had (Reply k willing) = false
is_far_message had (Decide k c) = false

abbrev pub is_stale : ℕ → NodeParcel → Bool
is_stale last (App label body) = nat_le label last
is_stale last (Ask k kind label) = false
is_stale last (Reply k willing) = false
is_stale last (Decide k c) = false

-- a parcel's clock is too far above the node's, or its message above both the last label of its sender and the node's own
abbrev pub is_leap : NodeLinks → ℕ → Envelope → Bool
is_leap w q e = is_far w.clock e.clock || is_far_message (max (last_label w q) w.manager.process.used) e.parcel

-- the first message that it holds does not rise above what it received
abbrev pub is_stale_held : NodeLinks → ℕ → Bool
is_stale_held w q = not (held_label w q 0 == 0) && nat_le (held_label w q 0) (received_label w q)

-- the number of the next parcel of a process
abbrev pub next_number : NodeLinks → ℕ → ℕ
next_number w q = slice_index w.taken q + 1

-- whether a parcel that comes of a process is the next one, or came before; else why it is refused
abbrev pub meeting_of : NodeLinks → ℕ → Envelope → Result Bool NodeFault
meeting_of w q e =
    if not (e.from == q && e.to == w.manager.me) then Err fault.Astray
    else if nat_lt e.number (next_number w q) then Ok false
    else if nat_lt (next_number w q) e.number then Err (fault.Gap (next_number w q))
    else if is_leap w q e then Err fault.Leap
    else if is_stale (last_label w q) e.parcel then Err fault.Stale
    else Ok true

abbrev pub is_next_one : Result Bool NodeFault → Bool
is_next_one (Ok next) = next
is_next_one (Err f) = false
