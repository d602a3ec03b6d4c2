use Rattle.std.proofs.Common.{refl}
use Rattle.kt_tables.specs.Peers.{count_peers}
use Rattle.kt_machine.specs.CallTests.{must_take, must_roll, is_asked_in_checkpoint, checkpoint_label, is_asked_in_rollback, rollback_label}
use Rattle.kt_kills.proofs.WorkedStarts as starts
use Rattle.kt_kills.proofs.worked.worked_kills.Goals as goal

pub returns-clause-asks : goal.returns-clause-asks
unfolding must_take must_roll is_asked_in_checkpoint checkpoint_label is_asked_in_rollback rollback_label count_peers
returns-clause-asks c = refl

pub returns-clause-not_without : goal.returns-clause-not_without
unfolding must_take must_roll is_asked_in_checkpoint checkpoint_label is_asked_in_rollback rollback_label count_peers
returns-clause-not_without c = starts.not_without

pub returns-clause-knows : goal.returns-clause-knows
unfolding must_take must_roll is_asked_in_checkpoint checkpoint_label is_asked_in_rollback rollback_label count_peers
returns-clause-knows c = refl

pub returns-clause-rows_of_0 : goal.returns-clause-rows_of_0
unfolding must_take must_roll is_asked_in_checkpoint checkpoint_label is_asked_in_rollback rollback_label count_peers
returns-clause-rows_of_0 c = refl

pub returns-clause-rows_of_1 : goal.returns-clause-rows_of_1
unfolding must_take must_roll is_asked_in_checkpoint checkpoint_label is_asked_in_rollback rollback_label count_peers
returns-clause-rows_of_1 c = refl

pub returns-clause-net_0 : goal.returns-clause-net_0
unfolding must_take must_roll is_asked_in_checkpoint checkpoint_label is_asked_in_rollback rollback_label count_peers
returns-clause-net_0 c = refl

pub returns-clause-net_1 : goal.returns-clause-net_1
unfolding must_take must_roll is_asked_in_checkpoint checkpoint_label is_asked_in_rollback rollback_label count_peers
returns-clause-net_1 c = refl

pub returns-clause-same_start : goal.returns-clause-same_start
unfolding must_take must_roll is_asked_in_checkpoint checkpoint_label is_asked_in_rollback rollback_label count_peers
returns-clause-same_start c = refl

pub returns-clause-third_life : goal.returns-clause-third_life
unfolding must_take must_roll is_asked_in_checkpoint checkpoint_label is_asked_in_rollback rollback_label count_peers
returns-clause-third_life c = refl

pub returns-clause-fills : goal.returns-clause-fills
unfolding must_take must_roll is_asked_in_checkpoint checkpoint_label is_asked_in_rollback rollback_label count_peers
returns-clause-fills c = refl

pub returns-clause-knows_filled : goal.returns-clause-knows_filled
unfolding must_take must_roll is_asked_in_checkpoint checkpoint_label is_asked_in_rollback rollback_label count_peers
returns-clause-knows_filled c = refl

pub returns-clause-not_to_who_took : goal.returns-clause-not_to_who_took
unfolding must_take must_roll is_asked_in_checkpoint checkpoint_label is_asked_in_rollback rollback_label count_peers
returns-clause-not_to_who_took c = starts.not_to_who_took

pub returns-clause-refused : goal.returns-clause-refused
unfolding must_take must_roll is_asked_in_checkpoint checkpoint_label is_asked_in_rollback rollback_label count_peers
returns-clause-refused c = refl

pub returns-clause-tells : goal.returns-clause-tells
unfolding must_take must_roll is_asked_in_checkpoint checkpoint_label is_asked_in_rollback rollback_label count_peers
returns-clause-tells c = refl

pub returns-clause-tells_nothing : goal.returns-clause-tells_nothing
unfolding must_take must_roll is_asked_in_checkpoint checkpoint_label is_asked_in_rollback rollback_label count_peers
returns-clause-tells_nothing c = refl

pub returns-clause-member : goal.returns-clause-member
unfolding must_take must_roll is_asked_in_checkpoint checkpoint_label is_asked_in_rollback rollback_label count_peers
returns-clause-member c = refl

pub returns-clause-initiator : goal.returns-clause-initiator
unfolding must_take must_roll is_asked_in_checkpoint checkpoint_label is_asked_in_rollback rollback_label count_peers
returns-clause-initiator c = refl

pub returns-clause-again : goal.returns-clause-again
unfolding must_take must_roll is_asked_in_checkpoint checkpoint_label is_asked_in_rollback rollback_label count_peers
returns-clause-again c = refl

pub returns-clause-object_lost : goal.returns-clause-object_lost
unfolding must_take must_roll is_asked_in_checkpoint checkpoint_label is_asked_in_rollback rollback_label count_peers
returns-clause-object_lost c = refl

pub returns-clause-object_back : goal.returns-clause-object_back
unfolding must_take must_roll is_asked_in_checkpoint checkpoint_label is_asked_in_rollback rollback_label count_peers
returns-clause-object_back c = refl

pub returns-clause-away : goal.returns-clause-away
unfolding must_take must_roll is_asked_in_checkpoint checkpoint_label is_asked_in_rollback rollback_label count_peers
returns-clause-away c = refl

pub returns-clause-replied : goal.returns-clause-replied
unfolding must_take must_roll is_asked_in_checkpoint checkpoint_label is_asked_in_rollback rollback_label count_peers
returns-clause-replied c = refl
