-- Runs that were worked out by hand: steps, and the rows that they have to write.
use Rattle.std.specs.Prelude.{List, [], ◌∷◌, true, false, pos}
use Rattle.kt_base.specs.declared.words.Cause.TheVariants.{Busy, Down, NoSave}
use Rattle.kt_base.specs.declared.words.Kind.TheVariants.{Checkpoint, Rollback}
use Rattle.kt_base.specs.declared.words.Verb.TheVariants as verb
use Rattle.kt_spacetime.specs.declared.event.Event.{Event}
use Rattle.kt_spacetime.specs.declared.event.Event.TheVariants.{Sent, Received, Dropped, Began, Took, Ready, Unwilling, Decided, Closed, Failed, Refused}
use Rattle.kt_protocol.specs.States.{ProtocolStep, Send, Begin, Fail, Take}

-- a sends to b, b begins a checkpoint: both take part
abbrev pub checkpoint_of_two_steps : List ProtocolStep
checkpoint_of_two_steps =
    Send 0 1 (pos 5) ∷ Take 1 0 true ∷ Begin 1 false true ∷ Take 0 1 true ∷ Take 1 0 true ∷ Take 0 1 true ∷ []

abbrev pub checkpoint_of_two : List Event
checkpoint_of_two =
    Sent 0 1 (pos 5) ∷
    Received 1 0 1 ∷
    Began 1 1 Checkpoint ∷
    Took 1 1 ∷
    Took 0 1 ∷
    Decided 1 1 true ∷
    Closed 1 1 ∷
    Closed 0 1 ∷ []

-- b begins a checkpoint before the message comes: b alone
abbrev pub checkpoint_before_the_message_comes_steps : List ProtocolStep
checkpoint_before_the_message_comes_steps =
    Send 0 1 (pos 5) ∷ Begin 1 false true ∷ Take 1 0 true ∷ []

abbrev pub checkpoint_before_the_message_comes : List Event
checkpoint_before_the_message_comes =
    Sent 0 1 (pos 5) ∷
    Began 1 1 Checkpoint ∷
    Took 1 1 ∷
    Decided 1 1 true ∷
    Closed 1 1 ∷
    Received 1 0 1 ∷ []

-- three send in a ring, one begins a checkpoint: all take part
abbrev pub checkpoint_round_a_ring_steps : List ProtocolStep
checkpoint_round_a_ring_steps =
    Send 0 1 (pos 1) ∷ Take 1 0 true ∷ Send 1 2 (pos 2) ∷ Take 2 1 true ∷ Send 2 0 (pos 3) ∷ Take 0 2 true ∷ Begin 0 false true ∷ Take 2 0 true ∷ Take 1 2 true ∷ Take 0 1 true ∷ Take 1 0 true ∷ Take 2 1 true ∷ Take 0 2 true ∷ Take 2 0 true ∷ Take 1 2 true ∷ Take 0 1 true ∷ []

abbrev pub checkpoint_round_a_ring : List Event
checkpoint_round_a_ring =
    Sent 0 1 (pos 1) ∷
    Received 1 0 1 ∷
    Sent 1 2 (pos 2) ∷
    Received 2 1 3 ∷
    Sent 2 0 (pos 3) ∷
    Received 0 2 5 ∷
    Began 0 1 Checkpoint ∷
    Took 0 1 ∷
    Took 2 1 ∷
    Took 1 1 ∷
    Decided 0 1 true ∷
    Closed 0 1 ∷
    Closed 2 1 ∷
    Closed 1 1 ∷ []

-- a second checkpoint, and nothing was sent since the first: its initiator alone
abbrev pub second_checkpoint_of_one_steps : List ProtocolStep
second_checkpoint_of_one_steps =
    Send 1 2 (pos 1) ∷ Take 2 1 true ∷ Send 0 1 (pos 2) ∷ Take 1 0 true ∷ Begin 2 false true ∷ Take 1 2 true ∷ Take 0 1 true ∷ Take 1 0 true ∷ Take 2 1 true ∷ Take 1 2 true ∷ Take 0 1 true ∷ Begin 2 false true ∷ []

abbrev pub second_checkpoint_of_one : List Event
second_checkpoint_of_one =
    Sent 1 2 (pos 1) ∷
    Received 2 1 1 ∷
    Sent 0 1 (pos 2) ∷
    Received 1 0 3 ∷
    Began 2 1 Checkpoint ∷
    Took 2 1 ∷
    Took 1 1 ∷
    Took 0 1 ∷
    Decided 2 1 true ∷
    Closed 2 1 ∷
    Closed 1 1 ∷
    Closed 0 1 ∷
    Began 2 2 Checkpoint ∷
    Took 2 2 ∷
    Decided 2 2 true ∷
    Closed 2 2 ∷ []

-- a second checkpoint, and a message was sent since the first: both take part
abbrev pub second_checkpoint_of_two_steps : List ProtocolStep
second_checkpoint_of_two_steps =
    Send 0 1 (pos 1) ∷ Take 1 0 true ∷ Begin 0 false true ∷ Send 0 1 (pos 2) ∷ Take 1 0 true ∷ Begin 1 false true ∷ Take 0 1 true ∷ Take 1 0 true ∷ Take 0 1 true ∷ []

abbrev pub second_checkpoint_of_two : List Event
second_checkpoint_of_two =
    Sent 0 1 (pos 1) ∷
    Received 1 0 1 ∷
    Began 0 1 Checkpoint ∷
    Took 0 1 ∷
    Decided 0 1 true ∷
    Closed 0 1 ∷
    Sent 0 1 (pos 2) ∷
    Received 1 0 7 ∷
    Began 1 2 Checkpoint ∷
    Took 1 2 ∷
    Took 0 2 ∷
    Decided 1 2 true ∷
    Closed 1 2 ∷
    Closed 0 2 ∷ []

-- two begin checkpoints at once, each alone
abbrev pub two_checkpoints_at_once_steps : List ProtocolStep
two_checkpoints_at_once_steps =
    Send 0 1 (pos 4) ∷ Take 1 0 true ∷ Begin 1 false true ∷ Begin 0 false true ∷ Take 0 1 true ∷ Take 1 0 true ∷ Take 0 1 true ∷ []

abbrev pub two_checkpoints_at_once : List Event
two_checkpoints_at_once =
    Sent 0 1 (pos 4) ∷
    Received 1 0 1 ∷
    Began 1 1 Checkpoint ∷
    Took 1 1 ∷
    Began 0 2 Checkpoint ∷
    Took 0 2 ∷
    Decided 0 2 true ∷
    Closed 0 2 ∷
    Decided 1 1 true ∷
    Closed 1 1 ∷ []

-- a checkpoint asks a process that is down: it is aborted
abbrev pub process_that_is_down_refuses_steps : List ProtocolStep
process_that_is_down_refuses_steps =
    Send 0 1 (pos 5) ∷ Take 1 0 true ∷ Fail 0 ∷ Begin 1 false true ∷ Take 0 1 true ∷ Take 1 0 true ∷ Take 0 1 true ∷ []

abbrev pub process_that_is_down_refuses : List Event
process_that_is_down_refuses =
    Sent 0 1 (pos 5) ∷
    Received 1 0 1 ∷
    Failed 0 ∷
    Began 1 1 Checkpoint ∷
    Took 1 1 ∷
    Unwilling 0 1 Down ∷
    Decided 1 1 false ∷
    Closed 1 1 ∷ []

-- two checkpoints are aborted one after the other, since a process is down: each asks the same
abbrev pub two_aborts_steps : List ProtocolStep
two_aborts_steps =
    Send 2 0 (pos 1) ∷ Take 0 2 true ∷ Send 0 1 (pos 2) ∷ Take 1 0 true ∷ Fail 2 ∷ Begin 1 false true ∷ Take 0 1 true ∷ Take 2 0 true ∷ Take 0 2 true ∷ Take 1 0 true ∷ Take 0 1 true ∷ Take 2 0 true ∷ Begin 1 false true ∷ Take 0 1 true ∷ Take 2 0 true ∷ Take 0 2 true ∷ Take 1 0 true ∷ Take 0 1 true ∷ Take 2 0 true ∷ []

abbrev pub two_aborts : List Event
two_aborts =
    Sent 2 0 (pos 1) ∷
    Received 0 2 1 ∷
    Sent 0 1 (pos 2) ∷
    Received 1 0 3 ∷
    Failed 2 ∷
    Began 1 1 Checkpoint ∷
    Took 1 1 ∷
    Took 0 1 ∷
    Unwilling 2 1 Down ∷
    Decided 1 1 false ∷
    Closed 1 1 ∷
    Closed 0 1 ∷
    Began 1 2 Checkpoint ∷
    Took 1 2 ∷
    Took 0 2 ∷
    Unwilling 2 2 Down ∷
    Decided 1 2 false ∷
    Closed 1 2 ∷
    Closed 0 2 ∷ []

-- a checkpoint asks a process that is in another one: the one is aborted, the other one committed
abbrev pub busy_process_refuses_steps : List ProtocolStep
busy_process_refuses_steps =
    Send 2 0 (pos 1) ∷ Take 0 2 true ∷ Send 0 1 (pos 2) ∷ Take 1 0 true ∷ Begin 0 false true ∷ Begin 1 false true ∷ Take 0 1 true ∷ Take 1 0 true ∷ Take 0 1 true ∷ Take 2 0 true ∷ Take 0 2 true ∷ Take 2 0 true ∷ []

abbrev pub busy_process_refuses : List Event
busy_process_refuses =
    Sent 2 0 (pos 1) ∷
    Received 0 2 1 ∷
    Sent 0 1 (pos 2) ∷
    Received 1 0 3 ∷
    Began 0 1 Checkpoint ∷
    Took 0 1 ∷
    Began 1 2 Checkpoint ∷
    Took 1 2 ∷
    Unwilling 0 2 (Busy 1) ∷
    Decided 1 2 false ∷
    Closed 1 2 ∷
    Took 2 1 ∷
    Decided 0 1 true ∷
    Closed 0 1 ∷
    Closed 2 1 ∷ []

-- a checkpoint and a rollback ask each other: both are aborted
abbrev pub two_instances_abort_each_other_steps : List ProtocolStep
two_instances_abort_each_other_steps =
    Send 2 1 (pos 1) ∷ Take 1 2 true ∷ Send 0 1 (pos 2) ∷ Take 1 0 true ∷ Begin 1 false true ∷ Begin 0 true true ∷ Send 2 0 (pos 3) ∷ Take 0 2 true ∷ Take 0 1 true ∷ Take 1 0 true ∷ Take 0 1 true ∷ Take 0 2 true ∷ Take 1 0 true ∷ Take 1 0 true ∷ Take 2 1 true ∷ Take 1 2 true ∷ Take 0 1 true ∷ Take 2 1 true ∷ []

abbrev pub two_instances_abort_each_other : List Event
two_instances_abort_each_other =
    Sent 2 1 (pos 1) ∷
    Received 1 2 1 ∷
    Sent 0 1 (pos 2) ∷
    Received 1 0 3 ∷
    Began 1 1 Checkpoint ∷
    Took 1 1 ∷
    Began 0 2 Rollback ∷
    Ready 0 2 ∷
    Sent 2 0 (pos 3) ∷
    Unwilling 0 1 (Busy 2) ∷
    Unwilling 1 2 (Busy 1) ∷
    Decided 0 2 false ∷
    Closed 0 2 ∷
    Received 0 2 9 ∷
    Took 2 1 ∷
    Decided 1 1 false ∷
    Closed 1 1 ∷
    Closed 2 1 ∷ []

-- a sends to b, fails and rolls back: both take part, and a is up again
abbrev pub rollback_after_a_failure_steps : List ProtocolStep
rollback_after_a_failure_steps =
    Send 0 1 (pos 7) ∷ Take 1 0 true ∷ Fail 0 ∷ Begin 0 true true ∷ Take 1 0 true ∷ Take 0 1 true ∷ Take 1 0 true ∷ []

abbrev pub rollback_after_a_failure : List Event
rollback_after_a_failure =
    Sent 0 1 (pos 7) ∷
    Received 1 0 1 ∷
    Failed 0 ∷
    Began 0 1 Rollback ∷
    Ready 0 1 ∷
    Ready 1 1 ∷
    Decided 0 1 true ∷
    Closed 0 1 ∷
    Closed 1 1 ∷ []

-- a process fails while it is in a checkpoint, and rolls back to it
abbrev pub failure_inside_a_checkpoint_steps : List ProtocolStep
failure_inside_a_checkpoint_steps =
    Send 0 1 (pos 5) ∷ Take 1 0 true ∷ Begin 1 false true ∷ Fail 1 ∷ Take 0 1 true ∷ Take 1 0 true ∷ Take 0 1 true ∷ Begin 1 true true ∷ []

abbrev pub failure_inside_a_checkpoint : List Event
failure_inside_a_checkpoint =
    Sent 0 1 (pos 5) ∷
    Received 1 0 1 ∷
    Began 1 1 Checkpoint ∷
    Took 1 1 ∷
    Failed 1 ∷
    Took 0 1 ∷
    Decided 1 1 true ∷
    Closed 1 1 ∷
    Closed 0 1 ∷
    Began 1 2 Rollback ∷
    Ready 1 2 ∷
    Decided 1 2 true ∷
    Closed 1 2 ∷ []

-- b rolls back: it alone, and receives the message again
abbrev pub rollback_of_the_receiver_alone_steps : List ProtocolStep
rollback_of_the_receiver_alone_steps =
    Send 0 1 (pos 7) ∷ Take 1 0 true ∷ Begin 1 true true ∷ Take 1 0 true ∷ []

abbrev pub rollback_of_the_receiver_alone : List Event
rollback_of_the_receiver_alone =
    Sent 0 1 (pos 7) ∷
    Received 1 0 1 ∷
    Began 1 1 Rollback ∷
    Ready 1 1 ∷
    Decided 1 1 true ∷
    Closed 1 1 ∷
    Received 1 0 1 ∷ []

-- a process fails, rolls back and receives two messages again; then it takes a checkpoint
abbrev pub messages_received_again_steps : List ProtocolStep
messages_received_again_steps =
    Send 0 1 (pos 1) ∷ Take 1 0 true ∷ Send 0 1 (pos 2) ∷ Take 1 0 true ∷ Fail 1 ∷ Begin 1 true true ∷ Take 1 0 true ∷ Take 1 0 true ∷ Begin 1 false true ∷ Take 0 1 true ∷ Take 1 0 true ∷ Take 0 1 true ∷ []

abbrev pub messages_received_again : List Event
messages_received_again =
    Sent 0 1 (pos 1) ∷
    Received 1 0 1 ∷
    Sent 0 1 (pos 2) ∷
    Received 1 0 3 ∷
    Failed 1 ∷
    Began 1 1 Rollback ∷
    Ready 1 1 ∷
    Decided 1 1 true ∷
    Closed 1 1 ∷
    Received 1 0 1 ∷
    Received 1 0 3 ∷
    Began 1 2 Checkpoint ∷
    Took 1 2 ∷
    Took 0 2 ∷
    Decided 1 2 true ∷
    Closed 1 2 ∷
    Closed 0 2 ∷ []

-- b receives while a rolls back: both roll back
abbrev pub rollback_meets_a_message_in_transit_steps : List ProtocolStep
rollback_meets_a_message_in_transit_steps =
    Send 0 1 (pos 5) ∷ Begin 0 true true ∷ Take 1 0 true ∷ Take 1 0 true ∷ Take 0 1 true ∷ Take 1 0 true ∷ []

abbrev pub rollback_meets_a_message_in_transit : List Event
rollback_meets_a_message_in_transit =
    Sent 0 1 (pos 5) ∷
    Began 0 1 Rollback ∷
    Ready 0 1 ∷
    Received 1 0 1 ∷
    Ready 1 1 ∷
    Decided 0 1 true ∷
    Closed 0 1 ∷
    Closed 1 1 ∷ []

-- a member holds a message that the rollback undoes: it is not received
abbrev pub rollback_through_three_steps : List ProtocolStep
rollback_through_three_steps =
    Send 2 0 (pos 1) ∷ Take 0 2 true ∷ Send 2 1 (pos 2) ∷ Take 1 2 true ∷ Send 0 1 (pos 3) ∷ Begin 2 true true ∷ Take 1 2 true ∷ Take 0 2 true ∷ Take 1 0 true ∷ Take 1 0 true ∷ Take 0 1 true ∷ Take 2 0 true ∷ Take 2 1 true ∷ Take 0 2 true ∷ Take 1 0 true ∷ Take 1 2 true ∷ []

abbrev pub rollback_through_three : List Event
rollback_through_three =
    Sent 2 0 (pos 1) ∷
    Received 0 2 1 ∷
    Sent 2 1 (pos 2) ∷
    Received 1 2 3 ∷
    Sent 0 1 (pos 3) ∷
    Began 2 1 Rollback ∷
    Ready 2 1 ∷
    Ready 1 1 ∷
    Ready 0 1 ∷
    Decided 2 1 true ∷
    Closed 2 1 ∷
    Closed 0 1 ∷
    Closed 1 1 ∷ []

-- of two messages received, the rollback undoes one: the other one alone is received again
abbrev pub undone_message_is_not_received_again_steps : List ProtocolStep
undone_message_is_not_received_again_steps =
    Send 2 1 (pos 1) ∷ Take 1 2 true ∷ Send 0 1 (pos 2) ∷ Take 1 0 true ∷ Begin 0 true true ∷ Take 1 0 true ∷ Take 0 1 true ∷ Take 1 0 true ∷ Take 1 2 true ∷ []

abbrev pub undone_message_is_not_received_again : List Event
undone_message_is_not_received_again =
    Sent 2 1 (pos 1) ∷
    Received 1 2 1 ∷
    Sent 0 1 (pos 2) ∷
    Received 1 0 3 ∷
    Began 0 1 Rollback ∷
    Ready 0 1 ∷
    Ready 1 1 ∷
    Decided 0 1 true ∷
    Closed 0 1 ∷
    Closed 1 1 ∷
    Received 1 2 1 ∷ []

-- a message comes while its receiver is down
abbrev pub dropped_message_steps : List ProtocolStep
dropped_message_steps =
    Send 0 1 (pos 5) ∷ Fail 1 ∷ Take 1 0 true ∷ Begin 0 true true ∷ Take 1 0 true ∷ Take 0 1 true ∷ Take 1 0 true ∷ Begin 1 true true ∷ []

abbrev pub dropped_message : List Event
dropped_message =
    Sent 0 1 (pos 5) ∷
    Failed 1 ∷
    Dropped 1 0 1 ∷
    Began 0 1 Rollback ∷
    Ready 0 1 ∷
    Decided 0 1 true ∷
    Closed 0 1 ∷
    Began 1 2 Rollback ∷
    Ready 1 2 ∷
    Decided 1 2 true ∷
    Closed 1 2 ∷ []

-- a command to begin is refused in an instance
abbrev pub command_refused_as_busy_steps : List ProtocolStep
command_refused_as_busy_steps =
    Send 1 0 (pos 1) ∷ Take 0 1 true ∷ Begin 0 false true ∷ Begin 0 false true ∷ Take 1 0 true ∷ Take 0 1 true ∷ Take 1 0 true ∷ []

abbrev pub command_refused_as_busy : List Event
command_refused_as_busy =
    Sent 1 0 (pos 1) ∷
    Received 0 1 1 ∷
    Began 0 1 Checkpoint ∷
    Took 0 1 ∷
    Refused 0 verb.Checkpoint (Busy 1) ∷
    Took 1 1 ∷
    Decided 0 1 true ∷
    Closed 0 1 ∷
    Closed 1 1 ∷ []

-- commands are refused by a process that is down
abbrev pub commands_refused_as_down_steps : List ProtocolStep
commands_refused_as_down_steps =
    Fail 0 ∷ Send 0 1 (pos 1) ∷ Fail 0 ∷ Begin 0 false true ∷ []

abbrev pub commands_refused_as_down : List Event
commands_refused_as_down =
    Failed 0 ∷
    Refused 0 verb.Send Down ∷
    Refused 0 verb.Fail Down ∷
    Refused 0 verb.Checkpoint Down ∷ []

-- a checkpoint asks a process whose object can't be saved: it is aborted, and a second one is committed
abbrev pub object_that_is_not_saved_steps : List ProtocolStep
object_that_is_not_saved_steps =
    Send 0 1 (pos 5) ∷ Take 1 0 true ∷ Begin 1 false true ∷ Take 0 1 false ∷ Take 1 0 true ∷ Take 0 1 true ∷ Begin 1 false true ∷ Take 0 1 true ∷ Take 1 0 true ∷ Take 0 1 true ∷ []

abbrev pub object_that_is_not_saved : List Event
object_that_is_not_saved =
    Sent 0 1 (pos 5) ∷
    Received 1 0 1 ∷
    Began 1 1 Checkpoint ∷
    Took 1 1 ∷
    Unwilling 0 1 NoSave ∷
    Decided 1 1 false ∷
    Closed 1 1 ∷
    Began 1 2 Checkpoint ∷
    Took 1 2 ∷
    Took 0 2 ∷
    Decided 1 2 true ∷
    Closed 1 2 ∷
    Closed 0 2 ∷ []

-- a command to send waits while its process is in a checkpoint
abbrev pub send_waits_in_a_checkpoint_steps : List ProtocolStep
send_waits_in_a_checkpoint_steps =
    Send 0 1 (pos 5) ∷ Take 1 0 true ∷ Begin 1 false true ∷ Send 1 0 (pos 6) ∷ Take 0 1 true ∷ Take 1 0 true ∷ Take 0 1 true ∷ Send 1 0 (pos 6) ∷ Take 0 1 true ∷ []

abbrev pub send_waits_in_a_checkpoint : List Event
send_waits_in_a_checkpoint =
    Sent 0 1 (pos 5) ∷
    Received 1 0 1 ∷
    Began 1 1 Checkpoint ∷
    Took 1 1 ∷
    Took 0 1 ∷
    Decided 1 1 true ∷
    Closed 1 1 ∷
    Closed 0 1 ∷
    Sent 1 0 (pos 6) ∷
    Received 0 1 9 ∷ []

-- a member holds a message whose sender joins later: the commit undoes it, and it is not received
abbrev pub held_message_that_is_undone_steps : List ProtocolStep
held_message_that_is_undone_steps =
    Send 2 1 (pos 1) ∷ Take 1 2 true ∷ Send 1 0 (pos 2) ∷ Take 0 1 true ∷ Send 0 1 (pos 3) ∷ Begin 2 true true ∷ Take 1 2 true ∷ Take 1 0 true ∷ Take 0 1 true ∷ Take 1 0 true ∷ Take 0 1 true ∷ Take 1 0 true ∷ Take 2 1 true ∷ Take 1 2 true ∷ Take 0 1 true ∷ Take 1 0 true ∷ Take 1 0 true ∷ []

abbrev pub held_message_that_is_undone : List Event
held_message_that_is_undone =
    Sent 2 1 (pos 1) ∷
    Received 1 2 1 ∷
    Sent 1 0 (pos 2) ∷
    Received 0 1 3 ∷
    Sent 0 1 (pos 3) ∷
    Began 2 1 Rollback ∷
    Ready 2 1 ∷
    Ready 1 1 ∷
    Ready 0 1 ∷
    Decided 2 1 true ∷
    Closed 2 1 ∷
    Closed 1 1 ∷
    Closed 0 1 ∷ []

-- a process receives a message, rolls back and holds a later one: they come again in their order
abbrev pub kept_before_held_steps : List ProtocolStep
kept_before_held_steps =
    Send 0 1 (pos 1) ∷ Take 1 0 true ∷ Send 1 2 (pos 2) ∷ Begin 1 true true ∷ Send 0 1 (pos 3) ∷ Take 1 0 true ∷ Take 2 1 true ∷ Take 2 1 true ∷ Take 1 2 true ∷ Take 2 1 true ∷ Take 1 0 true ∷ Take 1 0 true ∷ []

abbrev pub kept_before_held : List Event
kept_before_held =
    Sent 0 1 (pos 1) ∷
    Received 1 0 1 ∷
    Sent 1 2 (pos 2) ∷
    Began 1 1 Rollback ∷
    Ready 1 1 ∷
    Sent 0 1 (pos 3) ∷
    Received 2 1 3 ∷
    Ready 2 1 ∷
    Decided 1 1 true ∷
    Closed 1 1 ∷
    Closed 2 1 ∷
    Received 1 0 1 ∷
    Received 1 0 6 ∷ []

-- a message received in a checkpoint that is aborted counts for the next one: its sender takes part
abbrev pub label_after_an_abort_steps : List ProtocolStep
label_after_an_abort_steps =
    Send 2 1 (pos 1) ∷ Take 1 2 true ∷ Send 0 1 (pos 2) ∷ Take 1 0 true ∷ Begin 0 false true ∷ Begin 1 false true ∷ Send 0 1 (pos 3) ∷ Take 1 0 true ∷ Take 0 1 true ∷ Take 1 0 true ∷ Take 2 1 false ∷ Take 1 2 true ∷ Take 0 1 true ∷ Take 2 1 true ∷ Begin 1 false true ∷ Take 0 1 true ∷ Take 1 0 true ∷ Take 2 1 true ∷ Take 1 2 true ∷ Take 0 1 true ∷ Take 2 1 true ∷ []

abbrev pub label_after_an_abort : List Event
label_after_an_abort =
    Sent 2 1 (pos 1) ∷
    Received 1 2 1 ∷
    Sent 0 1 (pos 2) ∷
    Received 1 0 3 ∷
    Began 0 1 Checkpoint ∷
    Took 0 1 ∷
    Decided 0 1 true ∷
    Closed 0 1 ∷
    Began 1 2 Checkpoint ∷
    Took 1 2 ∷
    Sent 0 1 (pos 3) ∷
    Received 1 0 11 ∷
    Unwilling 2 2 NoSave ∷
    Decided 1 2 false ∷
    Closed 1 2 ∷
    Began 1 3 Checkpoint ∷
    Took 1 3 ∷
    Took 0 3 ∷
    Took 2 3 ∷
    Decided 1 3 true ∷
    Closed 1 3 ∷
    Closed 0 3 ∷
    Closed 2 3 ∷ []
