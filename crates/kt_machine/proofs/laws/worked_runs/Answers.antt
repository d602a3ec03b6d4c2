use Rattle.std.proofs.Common.{refl}
use Rattle.kt_tables.specs.Peers.{count_peers}
use Rattle.kt_machine.specs.ListChanges.{with_parcel, with_rest, with_asks_where, with_decisions}
use Rattle.kt_machine.specs.CallTests.{must_take, must_roll, is_asked_in_checkpoint, checkpoint_label, is_asked_in_rollback, rollback_label}
use Rattle.kt_machine.proofs.laws.worked_runs.Goals as goal

pub returns-clause-keeps_older : goal.returns-clause-keeps_older
unfolding with_parcel with_rest with_asks_where with_decisions must_take must_roll is_asked_in_checkpoint checkpoint_label is_asked_in_rollback rollback_label count_peers
returns-clause-keeps_older c = refl

pub returns-clause-calls : goal.returns-clause-calls
unfolding with_parcel with_rest with_asks_where with_decisions must_take must_roll is_asked_in_checkpoint checkpoint_label is_asked_in_rollback rollback_label count_peers
returns-clause-calls c = refl

pub returns-clause-marks : goal.returns-clause-marks
unfolding with_parcel with_rest with_asks_where with_decisions must_take must_roll is_asked_in_checkpoint checkpoint_label is_asked_in_rollback rollback_label count_peers
returns-clause-marks c = refl

pub returns-clause-forgets_marked : goal.returns-clause-forgets_marked
unfolding with_parcel with_rest with_asks_where with_decisions must_take must_roll is_asked_in_checkpoint checkpoint_label is_asked_in_rollback rollback_label count_peers
returns-clause-forgets_marked c = refl

pub returns-clause-keeps_newer : goal.returns-clause-keeps_newer
unfolding with_parcel with_rest with_asks_where with_decisions must_take must_roll is_asked_in_checkpoint checkpoint_label is_asked_in_rollback rollback_label count_peers
returns-clause-keeps_newer c = refl

pub returns-clause-asks : goal.returns-clause-asks
unfolding with_parcel with_rest with_asks_where with_decisions must_take must_roll is_asked_in_checkpoint checkpoint_label is_asked_in_rollback rollback_label count_peers
returns-clause-asks c = refl

pub returns-clause-notes : goal.returns-clause-notes
unfolding with_parcel with_rest with_asks_where with_decisions must_take must_roll is_asked_in_checkpoint checkpoint_label is_asked_in_rollback rollback_label count_peers
returns-clause-notes c = refl

pub returns-clause-awaits : goal.returns-clause-awaits
unfolding with_parcel with_rest with_asks_where with_decisions must_take must_roll is_asked_in_checkpoint checkpoint_label is_asked_in_rollback rollback_label count_peers
returns-clause-awaits c = refl

pub returns-clause-puts_back : goal.returns-clause-puts_back
unfolding with_parcel with_rest with_asks_where with_decisions must_take must_roll is_asked_in_checkpoint checkpoint_label is_asked_in_rollback rollback_label count_peers
returns-clause-puts_back c = refl

pub returns-clause-drops_undone : goal.returns-clause-drops_undone
unfolding with_parcel with_rest with_asks_where with_decisions must_take must_roll is_asked_in_checkpoint checkpoint_label is_asked_in_rollback rollback_label count_peers
returns-clause-drops_undone c = refl

pub returns-clause-keeps_nothing : goal.returns-clause-keeps_nothing
unfolding with_parcel with_rest with_asks_where with_decisions must_take must_roll is_asked_in_checkpoint checkpoint_label is_asked_in_rollback rollback_label count_peers
returns-clause-keeps_nothing c = refl

pub returns-clause-asks_after_an_abort : goal.returns-clause-asks_after_an_abort
unfolding with_parcel with_rest with_asks_where with_decisions must_take must_roll is_asked_in_checkpoint checkpoint_label is_asked_in_rollback rollback_label count_peers
returns-clause-asks_after_an_abort c = refl

pub returns-clause-receives_none_undone : goal.returns-clause-receives_none_undone
unfolding with_parcel with_rest with_asks_where with_decisions must_take must_roll is_asked_in_checkpoint checkpoint_label is_asked_in_rollback rollback_label count_peers
returns-clause-receives_none_undone c = refl
