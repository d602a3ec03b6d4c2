use Rattle.std.proofs.Common.{refl}
use Rattle.kt_protocol.specs.Parcels.{messages_where, with_parcel, with_rest, with_checkpoint_asks, with_rollback_asks, with_decisions, put_back, emptied, kept_where}
use Rattle.kt_protocol.proofs.laws.worked_runs.Goals as goal

pub returns-clause-checkpoint_of_two : goal.returns-clause-checkpoint_of_two
unfolding messages_where with_parcel with_rest with_checkpoint_asks with_rollback_asks with_decisions put_back emptied kept_where
returns-clause-checkpoint_of_two c = refl

pub returns-clause-checkpoint_before_the_message_comes : goal.returns-clause-checkpoint_before_the_message_comes
unfolding messages_where with_parcel with_rest with_checkpoint_asks with_rollback_asks with_decisions put_back emptied kept_where
returns-clause-checkpoint_before_the_message_comes c = refl

pub returns-clause-checkpoint_round_a_ring : goal.returns-clause-checkpoint_round_a_ring
unfolding messages_where with_parcel with_rest with_checkpoint_asks with_rollback_asks with_decisions put_back emptied kept_where
returns-clause-checkpoint_round_a_ring c = refl

pub returns-clause-second_checkpoint_of_one : goal.returns-clause-second_checkpoint_of_one
unfolding messages_where with_parcel with_rest with_checkpoint_asks with_rollback_asks with_decisions put_back emptied kept_where
returns-clause-second_checkpoint_of_one c = refl

pub returns-clause-second_checkpoint_of_two : goal.returns-clause-second_checkpoint_of_two
unfolding messages_where with_parcel with_rest with_checkpoint_asks with_rollback_asks with_decisions put_back emptied kept_where
returns-clause-second_checkpoint_of_two c = refl

pub returns-clause-two_checkpoints_at_once : goal.returns-clause-two_checkpoints_at_once
unfolding messages_where with_parcel with_rest with_checkpoint_asks with_rollback_asks with_decisions put_back emptied kept_where
returns-clause-two_checkpoints_at_once c = refl

pub returns-clause-process_that_is_down_refuses : goal.returns-clause-process_that_is_down_refuses
unfolding messages_where with_parcel with_rest with_checkpoint_asks with_rollback_asks with_decisions put_back emptied kept_where
returns-clause-process_that_is_down_refuses c = refl

pub returns-clause-two_aborts : goal.returns-clause-two_aborts
unfolding messages_where with_parcel with_rest with_checkpoint_asks with_rollback_asks with_decisions put_back emptied kept_where
returns-clause-two_aborts c = refl

pub returns-clause-busy_process_refuses : goal.returns-clause-busy_process_refuses
unfolding messages_where with_parcel with_rest with_checkpoint_asks with_rollback_asks with_decisions put_back emptied kept_where
returns-clause-busy_process_refuses c = refl

pub returns-clause-two_instances_abort_each_other : goal.returns-clause-two_instances_abort_each_other
unfolding messages_where with_parcel with_rest with_checkpoint_asks with_rollback_asks with_decisions put_back emptied kept_where
returns-clause-two_instances_abort_each_other c = refl

pub returns-clause-rollback_after_a_failure : goal.returns-clause-rollback_after_a_failure
unfolding messages_where with_parcel with_rest with_checkpoint_asks with_rollback_asks with_decisions put_back emptied kept_where
returns-clause-rollback_after_a_failure c = refl

pub returns-clause-failure_inside_a_checkpoint : goal.returns-clause-failure_inside_a_checkpoint
unfolding messages_where with_parcel with_rest with_checkpoint_asks with_rollback_asks with_decisions put_back emptied kept_where
returns-clause-failure_inside_a_checkpoint c = refl

pub returns-clause-rollback_of_the_receiver_alone : goal.returns-clause-rollback_of_the_receiver_alone
unfolding messages_where with_parcel with_rest with_checkpoint_asks with_rollback_asks with_decisions put_back emptied kept_where
returns-clause-rollback_of_the_receiver_alone c = refl

pub returns-clause-messages_received_again : goal.returns-clause-messages_received_again
unfolding messages_where with_parcel with_rest with_checkpoint_asks with_rollback_asks with_decisions put_back emptied kept_where
returns-clause-messages_received_again c = refl

pub returns-clause-rollback_meets_a_message_in_transit : goal.returns-clause-rollback_meets_a_message_in_transit
unfolding messages_where with_parcel with_rest with_checkpoint_asks with_rollback_asks with_decisions put_back emptied kept_where
returns-clause-rollback_meets_a_message_in_transit c = refl

pub returns-clause-rollback_through_three : goal.returns-clause-rollback_through_three
unfolding messages_where with_parcel with_rest with_checkpoint_asks with_rollback_asks with_decisions put_back emptied kept_where
returns-clause-rollback_through_three c = refl

pub returns-clause-undone_message_is_not_received_again : goal.returns-clause-undone_message_is_not_received_again
unfolding messages_where with_parcel with_rest with_checkpoint_asks with_rollback_asks with_decisions put_back emptied kept_where
returns-clause-undone_message_is_not_received_again c = refl

pub returns-clause-dropped_message : goal.returns-clause-dropped_message
unfolding messages_where with_parcel with_rest with_checkpoint_asks with_rollback_asks with_decisions put_back emptied kept_where
returns-clause-dropped_message c = refl

pub returns-clause-command_refused_as_busy : goal.returns-clause-command_refused_as_busy
unfolding messages_where with_parcel with_rest with_checkpoint_asks with_rollback_asks with_decisions put_back emptied kept_where
returns-clause-command_refused_as_busy c = refl

pub returns-clause-commands_refused_as_down : goal.returns-clause-commands_refused_as_down
unfolding messages_where with_parcel with_rest with_checkpoint_asks with_rollback_asks with_decisions put_back emptied kept_where
returns-clause-commands_refused_as_down c = refl

pub returns-clause-object_that_is_not_saved : goal.returns-clause-object_that_is_not_saved
unfolding messages_where with_parcel with_rest with_checkpoint_asks with_rollback_asks with_decisions put_back emptied kept_where
returns-clause-object_that_is_not_saved c = refl

pub returns-clause-send_waits_in_a_checkpoint : goal.returns-clause-send_waits_in_a_checkpoint
unfolding messages_where with_parcel with_rest with_checkpoint_asks with_rollback_asks with_decisions put_back emptied kept_where
returns-clause-send_waits_in_a_checkpoint c = refl

pub returns-clause-held_message_that_is_undone : goal.returns-clause-held_message_that_is_undone
unfolding messages_where with_parcel with_rest with_checkpoint_asks with_rollback_asks with_decisions put_back emptied kept_where
returns-clause-held_message_that_is_undone c = refl

pub returns-clause-kept_before_held : goal.returns-clause-kept_before_held
unfolding messages_where with_parcel with_rest with_checkpoint_asks with_rollback_asks with_decisions put_back emptied kept_where
returns-clause-kept_before_held c = refl

pub returns-clause-label_after_an_abort : goal.returns-clause-label_after_an_abort
unfolding messages_where with_parcel with_rest with_checkpoint_asks with_rollback_asks with_decisions put_back emptied kept_where
returns-clause-label_after_an_abort c = refl
