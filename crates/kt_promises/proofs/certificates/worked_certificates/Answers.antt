use Rattle.std.proofs.Common.{refl}
use Rattle.kt_protocol.specs.Parcels.{messages_where, with_parcel, with_rest, with_checkpoint_asks, with_rollback_asks, with_decisions, put_back, emptied, kept_where}
use Rattle.kt_promises.proofs.certificates.worked_certificates.Goals as goal

pub returns-clause-checkpoint_of_two : goal.returns-clause-checkpoint_of_two
unfolding messages_where with_parcel with_rest with_checkpoint_asks with_rollback_asks with_decisions put_back emptied kept_where
returns-clause-checkpoint_of_two c = refl

pub returns-clause-checkpoint_round_a_ring : goal.returns-clause-checkpoint_round_a_ring
unfolding messages_where with_parcel with_rest with_checkpoint_asks with_rollback_asks with_decisions put_back emptied kept_where
returns-clause-checkpoint_round_a_ring c = refl

pub returns-clause-second_checkpoint_of_two : goal.returns-clause-second_checkpoint_of_two
unfolding messages_where with_parcel with_rest with_checkpoint_asks with_rollback_asks with_decisions put_back emptied kept_where
returns-clause-second_checkpoint_of_two c = refl

pub returns-clause-two_checkpoints_at_once : goal.returns-clause-two_checkpoints_at_once
unfolding messages_where with_parcel with_rest with_checkpoint_asks with_rollback_asks with_decisions put_back emptied kept_where
returns-clause-two_checkpoints_at_once c = refl

pub returns-clause-rollback_through_three : goal.returns-clause-rollback_through_three
unfolding messages_where with_parcel with_rest with_checkpoint_asks with_rollback_asks with_decisions put_back emptied kept_where
returns-clause-rollback_through_three c = refl

pub returns-clause-messages_received_again : goal.returns-clause-messages_received_again
unfolding messages_where with_parcel with_rest with_checkpoint_asks with_rollback_asks with_decisions put_back emptied kept_where
returns-clause-messages_received_again c = refl

pub returns-clause-busy_process_refuses : goal.returns-clause-busy_process_refuses
unfolding messages_where with_parcel with_rest with_checkpoint_asks with_rollback_asks with_decisions put_back emptied kept_where
returns-clause-busy_process_refuses c = refl

pub returns-clause-undecided : goal.returns-clause-undecided
unfolding messages_where with_parcel with_rest with_checkpoint_asks with_rollback_asks with_decisions put_back emptied kept_where
returns-clause-undecided c = refl
