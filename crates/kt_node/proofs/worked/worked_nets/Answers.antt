use Rattle.std.proofs.Common.{refl}
use Rattle.kt_tables.specs.Peers.{count_peers}
use Rattle.kt_machine.specs.CallTests.{must_take, must_roll, is_asked_in_checkpoint, checkpoint_label, is_asked_in_rollback, rollback_label}
use Rattle.kt_node.proofs.worked.worked_nets.Goals as goal

pub returns-clause-two : goal.returns-clause-two
unfolding must_take must_roll is_asked_in_checkpoint checkpoint_label is_asked_in_rollback rollback_label count_peers
returns-clause-two c = refl

pub returns-clause-aborts : goal.returns-clause-aborts
unfolding must_take must_roll is_asked_in_checkpoint checkpoint_label is_asked_in_rollback rollback_label count_peers
returns-clause-aborts c = refl

pub returns-clause-busy : goal.returns-clause-busy
unfolding must_take must_roll is_asked_in_checkpoint checkpoint_label is_asked_in_rollback rollback_label count_peers
returns-clause-busy c = refl

pub returns-clause-abort_each_other : goal.returns-clause-abort_each_other
unfolding must_take must_roll is_asked_in_checkpoint checkpoint_label is_asked_in_rollback rollback_label count_peers
returns-clause-abort_each_other c = refl

pub returns-clause-rollback : goal.returns-clause-rollback
unfolding must_take must_roll is_asked_in_checkpoint checkpoint_label is_asked_in_rollback rollback_label count_peers
returns-clause-rollback c = refl

pub returns-clause-fails_inside : goal.returns-clause-fails_inside
unfolding must_take must_roll is_asked_in_checkpoint checkpoint_label is_asked_in_rollback rollback_label count_peers
returns-clause-fails_inside c = refl

pub returns-clause-received_again : goal.returns-clause-received_again
unfolding must_take must_roll is_asked_in_checkpoint checkpoint_label is_asked_in_rollback rollback_label count_peers
returns-clause-received_again c = refl

pub returns-clause-dropped : goal.returns-clause-dropped
unfolding must_take must_roll is_asked_in_checkpoint checkpoint_label is_asked_in_rollback rollback_label count_peers
returns-clause-dropped c = refl

pub returns-clause-busy_command : goal.returns-clause-busy_command
unfolding must_take must_roll is_asked_in_checkpoint checkpoint_label is_asked_in_rollback rollback_label count_peers
returns-clause-busy_command c = refl

pub returns-clause-down : goal.returns-clause-down
unfolding must_take must_roll is_asked_in_checkpoint checkpoint_label is_asked_in_rollback rollback_label count_peers
returns-clause-down c = refl

pub returns-clause-not_saved : goal.returns-clause-not_saved
unfolding must_take must_roll is_asked_in_checkpoint checkpoint_label is_asked_in_rollback rollback_label count_peers
returns-clause-not_saved c = refl

pub returns-clause-waits : goal.returns-clause-waits
unfolding must_take must_roll is_asked_in_checkpoint checkpoint_label is_asked_in_rollback rollback_label count_peers
returns-clause-waits c = refl

pub returns-clause-kept_before_held : goal.returns-clause-kept_before_held
unfolding must_take must_roll is_asked_in_checkpoint checkpoint_label is_asked_in_rollback rollback_label count_peers
returns-clause-kept_before_held c = refl

pub returns-clause-after_an_abort : goal.returns-clause-after_an_abort
unfolding must_take must_roll is_asked_in_checkpoint checkpoint_label is_asked_in_rollback rollback_label count_peers
returns-clause-after_an_abort c = refl

pub returns-clause-undone : goal.returns-clause-undone
unfolding must_take must_roll is_asked_in_checkpoint checkpoint_label is_asked_in_rollback rollback_label count_peers
returns-clause-undone c = refl

pub returns-clause-clocks : goal.returns-clause-clocks
unfolding must_take must_roll is_asked_in_checkpoint checkpoint_label is_asked_in_rollback rollback_label count_peers
returns-clause-clocks c = refl

pub returns-clause-overtaken : goal.returns-clause-overtaken
unfolding must_take must_roll is_asked_in_checkpoint checkpoint_label is_asked_in_rollback rollback_label count_peers
returns-clause-overtaken c = refl

pub returns-clause-undone_from_each : goal.returns-clause-undone_from_each
unfolding must_take must_roll is_asked_in_checkpoint checkpoint_label is_asked_in_rollback rollback_label count_peers
returns-clause-undone_from_each c = refl

pub returns-clause-own_labels : goal.returns-clause-own_labels
unfolding must_take must_roll is_asked_in_checkpoint checkpoint_label is_asked_in_rollback rollback_label count_peers
returns-clause-own_labels c = refl
