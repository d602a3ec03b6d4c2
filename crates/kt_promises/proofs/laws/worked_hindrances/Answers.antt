use Rattle.std.proofs.Common.{refl}
use Rattle.kt_tables.specs.Peers.{count_peers}
use Rattle.kt_machine.specs.ListChanges.{with_parcel, with_rest, with_asks_where, with_decisions}
use Rattle.kt_machine.specs.CallTests.{must_take, must_roll, is_asked_in_checkpoint, checkpoint_label, is_asked_in_rollback, rollback_label}
use Rattle.kt_promises.proofs.laws.worked_hindrances.Goals as goal

pub returns-clause-first : goal.returns-clause-first
unfolding with_parcel with_rest with_asks_where with_decisions must_take must_roll is_asked_in_checkpoint checkpoint_label is_asked_in_rollback rollback_label count_peers
returns-clause-first c = refl

pub returns-clause-later : goal.returns-clause-later
unfolding with_parcel with_rest with_asks_where with_decisions must_take must_roll is_asked_in_checkpoint checkpoint_label is_asked_in_rollback rollback_label count_peers
returns-clause-later c = refl

pub returns-clause-nothing_sent : goal.returns-clause-nothing_sent
unfolding with_parcel with_rest with_asks_where with_decisions must_take must_roll is_asked_in_checkpoint checkpoint_label is_asked_in_rollback rollback_label count_peers
returns-clause-nothing_sent c = refl

pub returns-clause-not_there : goal.returns-clause-not_there
unfolding with_parcel with_rest with_asks_where with_decisions must_take must_roll is_asked_in_checkpoint checkpoint_label is_asked_in_rollback rollback_label count_peers
returns-clause-not_there c = refl

pub returns-clause-waits : goal.returns-clause-waits
unfolding with_parcel with_rest with_asks_where with_decisions must_take must_roll is_asked_in_checkpoint checkpoint_label is_asked_in_rollback rollback_label count_peers
returns-clause-waits c = refl

pub returns-clause-all_done : goal.returns-clause-all_done
unfolding with_parcel with_rest with_asks_where with_decisions must_take must_roll is_asked_in_checkpoint checkpoint_label is_asked_in_rollback rollback_label count_peers
returns-clause-all_done c = refl
