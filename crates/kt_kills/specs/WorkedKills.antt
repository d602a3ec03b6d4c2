-- Nets of two and three processes of which some are killed, worked out by hand.
use Rattle.std.specs.Prelude.{ℕ, List, [], ◌∷◌, ◌++◌, true, false, pos}
use Rattle.kt_base.specs.declared.words.Kind.TheVariants.{Checkpoint, Rollback}
use Rattle.kt_spacetime.specs.declared.named_rows.NamedEvent.TheVariants.{Sent, Received, Began, Took, Ready, Decided, Closed}
use Rattle.kt_spacetime.specs.declared.named_rows.ClockedRow.{ClockedRow}
use Rattle.kt_meaning.specs.Names.{name_of}
use Rattle.kt_protocol.specs.States.{ProtocolStep, Send, Begin, Take}
use Rattle.kt_manager.specs.declared.parcels.NodeParcel.{NodeParcel}
use Rattle.kt_manager.specs.declared.parcels.NodeParcel.TheVariants.{App, Reply}
use Rattle.kt_node.specs.Clocks.{clocked_row}
use Rattle.kt_kills.specs.KilledNets.{Holdings, KillEvent, Does, Brought, Killed, Back, opening_killed}
use Rattle.kt_kills.specs.Objects.{Object, objects_run, opening_objects}
use Rattle.kt_kills.specs.Standing.{killed_after}

-- what p has after these events among n processes
abbrev pub had : ℕ → List KillEvent → ℕ → Holdings
had n es p = (killed_after n 0 es).memory p

abbrev pub object_of : ℕ → List KillEvent → ℕ → Object
object_of n es p = (objects_run (opening_killed n 0) opening_objects es).memory p

-- 0 sends to 1, which takes it; 0 is killed, and its disk knows of nothing
abbrev pub taken_and_killed : List KillEvent
taken_and_killed = Does (Send 0 1 (pos 5)) ∷ Brought 1 0 true 0 1 ∷ Killed 0 ∷ []

-- it comes back, sends that again and rolls back; 1 goes back with it
abbrev pub taken_and_back : List KillEvent
taken_and_back = taken_and_killed ++ Back 0 ((1, pos 5) ∷ []) ∷ Does (Begin 0 true false) ∷ Brought 1 0 true 1 2 ∷ Brought 0 1 false 0 1 ∷ Brought 1 0 true 1 3 ∷ []

-- a net of which nobody is killed has the same rows
abbrev pub taken_and_back_steps : List ProtocolStep
taken_and_back_steps = Send 0 1 (pos 5) ∷ Take 1 0 true ∷ Begin 0 true false ∷ Take 1 0 true ∷ Take 0 1 false ∷ Take 1 0 true ∷ []

abbrev pub rows_of_0 : List ClockedRow
rows_of_0 =
    clocked_row 0 1 (Sent 1 (pos 5) 1) ∷
    clocked_row 0 2 (Began (name_of 0 1) Rollback) ∷
    clocked_row 0 2 (Ready (name_of 0 1)) ∷
    clocked_row 0 4 (Decided (name_of 0 1) true) ∷
    clocked_row 0 4 (Closed (name_of 0 1)) ∷ []

abbrev pub rows_of_1 : List ClockedRow
rows_of_1 =
    clocked_row 1 2 (Received 0 1) ∷
    clocked_row 1 3 (Ready (name_of 0 1)) ∷
    clocked_row 1 5 (Closed (name_of 0 1)) ∷ []

-- 0 is killed in its start, after it sent that again, and once more before it did; then it is back as before
abbrev pub killed_in_start : List KillEvent
killed_in_start = taken_and_killed ++ Back 0 ((1, pos 5) ∷ []) ∷ Killed 0 ∷ Killed 0 ∷ Back 0 ((1, pos 5) ∷ []) ∷ []

-- 0 sends to 1 and then to 2; only 2 is brought its message, and 0 is killed
abbrev pub first_one_lost : List KillEvent
first_one_lost = Does (Send 0 1 (pos 5)) ∷ Does (Send 0 2 (pos 7)) ∷ Brought 2 0 true 0 1 ∷ Killed 0 ∷ []

-- 0 comes back, fills the first label, and 1 is brought what 0 sent it before it was killed
abbrev pub old_parcel : List KillEvent
old_parcel = first_one_lost ++ Back 0 ((1, pos 0) ∷ (2, pos 7) ∷ []) ∷ []

-- 1 takes a message and begins a checkpoint, which asks 0; both are killed at once
abbrev pub both_killed : List KillEvent
both_killed = Does (Send 0 1 (pos 5)) ∷ Brought 1 0 true 0 1 ∷ Does (Begin 1 false true) ∷ Killed 0 ∷ Killed 1 ∷ []

-- both come back; what 1 had put in the open instance is sent again, and it commits
abbrev pub both_back : List KillEvent
both_back = both_killed ++ Back 1 [] ∷ Back 0 ((1, pos 5) ∷ []) ∷ Brought 0 1 true 1 1 ∷ Brought 1 0 true 1 2 ∷ Brought 0 1 true 1 2 ∷ []

abbrev pub member_0 : List ClockedRow
member_0 =
    clocked_row 0 1 (Sent 1 (pos 5) 1) ∷
    clocked_row 0 4 (Took (name_of 1 1)) ∷
    clocked_row 0 6 (Closed (name_of 1 1)) ∷ []

abbrev pub initiator_1 : List ClockedRow
initiator_1 =
    clocked_row 1 2 (Received 0 1) ∷
    clocked_row 1 3 (Began (name_of 1 1) Checkpoint) ∷
    clocked_row 1 3 (Took (name_of 1 1)) ∷
    clocked_row 1 5 (Decided (name_of 1 1) true) ∷
    clocked_row 1 5 (Closed (name_of 1 1)) ∷ []

-- 1 is killed after it took a message and wrote nothing: it takes it again
abbrev pub taken_again : List KillEvent
taken_again = Does (Send 0 1 (pos 5)) ∷ Brought 1 0 true 0 1 ∷ Killed 1 ∷ Back 1 [] ∷ Brought 1 0 true 0 1 ∷ []

abbrev pub received_once : List ClockedRow
received_once = clocked_row 1 2 (Received 0 1) ∷ []

-- 1 is killed, and is brought a message while it is away
abbrev pub brought_while_away : List KillEvent
brought_while_away = Does (Send 0 1 (pos 5)) ∷ Killed 1 ∷ Brought 1 0 true 0 1 ∷ []

-- 0 has a checkpoint with what it sent; 1, which took that, asks it to join another one; it need not, replies so, and is killed
abbrev pub replied_and_killed : List KillEvent
replied_and_killed =
    Does (Send 0 1 (pos 5)) ∷ Does (Begin 0 false true) ∷ Brought 1 0 true 0 1 ∷ Does (Begin 1 false true) ∷ Brought 0 1 true 0 1 ∷ Killed 0 ∷ []

abbrev pub put_for_1 : List NodeParcel
put_for_1 = App 1 (pos 5) ∷ Reply (name_of 1 1) true ∷ []
