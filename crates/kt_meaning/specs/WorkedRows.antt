-- Logs of worked runs, and logs that each break one rule first.
use Rattle.std.specs.Prelude.{List, [], ◌∷◌, true, pos}
use Rattle.kt_base.specs.declared.words.Kind.TheVariants.{Checkpoint, Rollback}
use Rattle.kt_spacetime.specs.declared.event.Event.{Event}
use Rattle.kt_spacetime.specs.declared.event.Event.TheVariants.{Sent, Received, Began, Took, Ready, Decided, Closed, Failed}

-- a sends to b, b begins a checkpoint: both take part
abbrev pub two_processes_checkpoint : List Event
two_processes_checkpoint =
    Sent 0 1 (pos 5) ∷
    Received 1 0 1 ∷
    Began 1 1 Checkpoint ∷
    Took 1 1 ∷
    Took 0 1 ∷
    Decided 1 1 true ∷
    Closed 1 1 ∷
    Closed 0 1 ∷ []

-- a sends to b, a begins a checkpoint: a alone
abbrev pub only_the_initiator : List Event
only_the_initiator =
    Sent 0 1 (pos 5) ∷
    Received 1 0 1 ∷
    Began 0 1 Checkpoint ∷
    Took 0 1 ∷
    Decided 0 1 true ∷
    Closed 0 1 ∷ []

-- b to c, a to b, c begins a checkpoint: all three
abbrev pub checkpoint_through_three : List Event
checkpoint_through_three =
    Sent 1 2 (pos 1) ∷
    Received 2 1 1 ∷
    Sent 0 1 (pos 2) ∷
    Received 1 0 3 ∷
    Began 2 1 Checkpoint ∷
    Took 2 1 ∷
    Took 1 1 ∷
    Took 0 1 ∷
    Decided 2 1 true ∷
    Closed 2 1 ∷
    Closed 1 1 ∷
    Closed 0 1 ∷ []

-- a sends to b, fails and rolls back: both
abbrev pub rollback_after_a_failure : List Event
rollback_after_a_failure =
    Sent 0 1 (pos 7) ∷
    Received 1 0 1 ∷
    Failed 0 ∷
    Began 0 1 Rollback ∷
    Ready 0 1 ∷
    Ready 1 1 ∷
    Decided 0 1 true ∷
    Closed 0 1 ∷
    Closed 1 1 ∷ []

-- b and a begin checkpoints, each alone
abbrev pub two_instances_at_once : List Event
two_instances_at_once =
    Sent 0 1 (pos 4) ∷
    Received 1 0 1 ∷
    Began 1 1 Checkpoint ∷
    Took 1 1 ∷
    Began 0 2 Checkpoint ∷
    Took 0 2 ∷
    Decided 0 2 true ∷
    Closed 0 2 ∷
    Decided 1 1 true ∷
    Closed 1 1 ∷ []

-- b receives while a rolls back
abbrev pub rollback_meets_a_message : List Event
rollback_meets_a_message =
    Sent 0 1 (pos 5) ∷
    Began 0 1 Rollback ∷
    Ready 0 1 ∷
    Received 1 0 1 ∷
    Ready 1 1 ∷
    Decided 0 1 true ∷
    Closed 0 1 ∷
    Closed 1 1 ∷ []

-- c sends to a and b, a to b, c rolls back: all three
abbrev pub rollback_through_three : List Event
rollback_through_three =
    Sent 2 0 (pos 1) ∷
    Received 0 2 1 ∷
    Sent 2 1 (pos 2) ∷
    Received 1 2 3 ∷
    Sent 0 1 (pos 3) ∷
    Began 2 1 Rollback ∷
    Ready 2 1 ∷
    Ready 1 1 ∷
    Ready 0 1 ∷
    Decided 2 1 true ∷
    Closed 2 1 ∷
    Closed 0 1 ∷
    Closed 1 1 ∷ []

-- a has a checkpoint, sends again, b begins one: both
abbrev pub second_checkpoint : List Event
second_checkpoint =
    Sent 0 1 (pos 1) ∷
    Received 1 0 1 ∷
    Began 0 1 Checkpoint ∷
    Took 0 1 ∷
    Decided 0 1 true ∷
    Closed 0 1 ∷
    Sent 0 1 (pos 2) ∷
    Received 1 0 7 ∷
    Began 1 2 Checkpoint ∷
    Took 1 2 ∷
    Took 0 2 ∷
    Decided 1 2 true ∷
    Closed 1 2 ∷
    Closed 0 2 ∷ []

-- the first of these logs with the sender left out of its checkpoint
abbrev pub without_the_sender : List Event
without_the_sender =
    Sent 0 1 (pos 5) ∷
    Received 1 0 1 ∷
    Began 1 1 Checkpoint ∷
    Took 1 1 ∷
    Decided 1 1 true ∷
    Closed 1 1 ∷ []

-- the first of these logs with a needless third process in its checkpoint
abbrev pub with_a_needless_member : List Event
with_a_needless_member =
    Sent 0 1 (pos 5) ∷
    Received 1 0 1 ∷
    Began 1 1 Checkpoint ∷
    Took 1 1 ∷
    Took 0 1 ∷
    Took 2 1 ∷
    Decided 1 1 true ∷
    Closed 1 1 ∷
    Closed 0 1 ∷
    Closed 2 1 ∷ []

-- the rollback after a failure with the receiver left out
abbrev pub without_the_receiver : List Event
without_the_receiver =
    Sent 0 1 (pos 7) ∷
    Received 1 0 1 ∷
    Failed 0 ∷
    Began 0 1 Rollback ∷
    Ready 0 1 ∷
    Decided 0 1 true ∷
    Closed 0 1 ∷ []

-- the rollback after a failure with a needless third process
abbrev pub with_a_needless_rollback : List Event
with_a_needless_rollback =
    Sent 0 1 (pos 7) ∷
    Received 1 0 1 ∷
    Failed 0 ∷
    Began 0 1 Rollback ∷
    Ready 0 1 ∷
    Ready 1 1 ∷
    Sent 2 0 (pos 1) ∷
    Ready 2 1 ∷
    Decided 0 1 true ∷
    Closed 0 1 ∷
    Closed 1 1 ∷
    Closed 2 1 ∷ []

-- breaks numbers
abbrev pub breaks_numbers : List Event
breaks_numbers =
    Began 0 2 Checkpoint ∷ []

-- breaks message
abbrev pub breaks_message : List Event
breaks_message =
    Sent 0 1 (pos 5) ∷
    Received 1 0 1 ∷
    Received 1 0 1 ∷ []

-- breaks order
abbrev pub breaks_order : List Event
breaks_order =
    Sent 0 1 (pos 1) ∷
    Sent 0 1 (pos 2) ∷
    Received 1 0 2 ∷
    Received 1 0 1 ∷ []

-- breaks sending
abbrev pub breaks_sending : List Event
breaks_sending =
    Began 0 1 Checkpoint ∷
    Took 0 1 ∷
    Sent 0 1 (pos 5) ∷ []

-- breaks receiving
abbrev pub breaks_receiving : List Event
breaks_receiving =
    Sent 0 1 (pos 5) ∷
    Failed 1 ∷
    Received 1 0 1 ∷ []

-- breaks joining
abbrev pub breaks_joining : List Event
breaks_joining =
    Began 0 1 Checkpoint ∷
    Sent 1 0 (pos 5) ∷ []

-- breaks deciding
abbrev pub breaks_deciding : List Event
breaks_deciding =
    Began 0 1 Checkpoint ∷
    Took 0 1 ∷
    Decided 1 1 true ∷ []

-- breaks closing
abbrev pub breaks_closing : List Event
breaks_closing =
    Began 0 1 Checkpoint ∷
    Took 0 1 ∷
    Closed 0 1 ∷ []

-- breaks causes
abbrev pub breaks_causes : List Event
breaks_causes =
    Failed 0 ∷
    Failed 0 ∷ []
