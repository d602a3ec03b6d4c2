use Rattle.std.proofs.Common.{arith, refl}
use Rattle.kt_tables.specs.Peers.{count_peers}
use Rattle.kt_machine.specs.ListChanges.{with_parcel, with_rest, with_asks_where, with_decisions}
use Rattle.kt_machine.specs.CallTests.{must_take, must_roll, is_asked_in_checkpoint, checkpoint_label, is_asked_in_rollback, rollback_label}
use Rattle.kt_promises.specs.Tallies.{total_below, count_where}
use Rattle.kt_promises.proofs.WorkedLimits.{plan_of_two}
use Rattle.kt_promises.specs.WorkedRuns.{fails_twice}
use Rattle.kt_promises.proofs.laws.worked_progress.Goals as goal

pub returns-clause-is_plan : goal.returns-clause-is_plan
returns-clause-is_plan c = plan_of_two fails_twice.commands (omega arith) (omega arith, (omega arith, omega arith), omega arith, (omega arith, tt, omega arith, (omega arith, (omega arith, omega arith), omega arith, (omega arith, tt, omega arith, (omega arith, tt, omega arith, tt)))))

pub returns-clause-steps : goal.returns-clause-steps
unfolding with_parcel with_rest with_asks_where with_decisions must_take must_roll is_asked_in_checkpoint checkpoint_label is_asked_in_rollback rollback_label count_peers count_where total_below
returns-clause-steps c = refl

pub returns-clause-log : goal.returns-clause-log
unfolding with_parcel with_rest with_asks_where with_decisions must_take must_roll is_asked_in_checkpoint checkpoint_label is_asked_in_rollback rollback_label count_peers count_where total_below
returns-clause-log c = refl

pub returns-clause-by_gives : goal.returns-clause-by_gives
unfolding with_parcel with_rest with_asks_where with_decisions must_take must_roll is_asked_in_checkpoint checkpoint_label is_asked_in_rollback rollback_label count_peers count_where total_below
returns-clause-by_gives c = refl

pub returns-clause-rest : goal.returns-clause-rest
unfolding with_parcel with_rest with_asks_where with_decisions must_take must_roll is_asked_in_checkpoint checkpoint_label is_asked_in_rollback rollback_label count_peers count_where total_below
returns-clause-rest c = refl

pub returns-clause-in_transit : goal.returns-clause-in_transit
unfolding with_parcel with_rest with_asks_where with_decisions must_take must_roll is_asked_in_checkpoint checkpoint_label is_asked_in_rollback rollback_label count_peers count_where total_below
returns-clause-in_transit c = refl

pub returns-clause-arrived : goal.returns-clause-arrived
unfolding with_parcel with_rest with_asks_where with_decisions must_take must_roll is_asked_in_checkpoint checkpoint_label is_asked_in_rollback rollback_label count_peers count_where total_below
returns-clause-arrived c = refl

pub returns-clause-too_soon : goal.returns-clause-too_soon
unfolding with_parcel with_rest with_asks_where with_decisions must_take must_roll is_asked_in_checkpoint checkpoint_label is_asked_in_rollback rollback_label count_peers count_where total_below
returns-clause-too_soon c = refl

pub returns-clause-ask : goal.returns-clause-ask
unfolding with_parcel with_rest with_asks_where with_decisions must_take must_roll is_asked_in_checkpoint checkpoint_label is_asked_in_rollback rollback_label count_peers count_where total_below
returns-clause-ask c = refl

pub returns-clause-saves : goal.returns-clause-saves
unfolding with_parcel with_rest with_asks_where with_decisions must_take must_roll is_asked_in_checkpoint checkpoint_label is_asked_in_rollback rollback_label count_peers count_where total_below
returns-clause-saves c = refl

pub returns-clause-offers : goal.returns-clause-offers
unfolding with_parcel with_rest with_asks_where with_decisions must_take must_roll is_asked_in_checkpoint checkpoint_label is_asked_in_rollback rollback_label count_peers count_where total_below
returns-clause-offers c = refl

pub returns-clause-keeps : goal.returns-clause-keeps
unfolding with_parcel with_rest with_asks_where with_decisions must_take must_roll is_asked_in_checkpoint checkpoint_label is_asked_in_rollback rollback_label count_peers count_where total_below
returns-clause-keeps c = refl

pub returns-clause-promotes : goal.returns-clause-promotes
unfolding with_parcel with_rest with_asks_where with_decisions must_take must_roll is_asked_in_checkpoint checkpoint_label is_asked_in_rollback rollback_label count_peers count_where total_below
returns-clause-promotes c = refl

pub returns-clause-asks : goal.returns-clause-asks
unfolding with_parcel with_rest with_asks_where with_decisions must_take must_roll is_asked_in_checkpoint checkpoint_label is_asked_in_rollback rollback_label count_peers count_where total_below
returns-clause-asks c = refl

pub returns-clause-replies : goal.returns-clause-replies
unfolding with_parcel with_rest with_asks_where with_decisions must_take must_roll is_asked_in_checkpoint checkpoint_label is_asked_in_rollback rollback_label count_peers count_where total_below
returns-clause-replies c = refl

pub returns-clause-decisions : goal.returns-clause-decisions
unfolding with_parcel with_rest with_asks_where with_decisions must_take must_roll is_asked_in_checkpoint checkpoint_label is_asked_in_rollback rollback_label count_peers count_where total_below
returns-clause-decisions c = refl

pub returns-clause-certified : goal.returns-clause-certified
returns-clause-certified c = refl

pub returns-clause-due_to_one : goal.returns-clause-due_to_one
returns-clause-due_to_one c = refl

pub returns-clause-due_to_zero : goal.returns-clause-due_to_zero
returns-clause-due_to_zero c = refl

pub returns-clause-holds : goal.returns-clause-holds
unfolding with_parcel with_rest with_asks_where with_decisions must_take must_roll is_asked_in_checkpoint checkpoint_label is_asked_in_rollback rollback_label count_peers count_where total_below
returns-clause-holds c = refl

pub returns-clause-held_phase : goal.returns-clause-held_phase
unfolding with_parcel with_rest with_asks_where with_decisions must_take must_roll is_asked_in_checkpoint checkpoint_label is_asked_in_rollback rollback_label count_peers count_where total_below
returns-clause-held_phase c = refl

pub returns-clause-aborts : goal.returns-clause-aborts
unfolding with_parcel with_rest with_asks_where with_decisions must_take must_roll is_asked_in_checkpoint checkpoint_label is_asked_in_rollback rollback_label count_peers count_where total_below
returns-clause-aborts c = refl

pub returns-clause-aborts_rest : goal.returns-clause-aborts_rest
unfolding with_parcel with_rest with_asks_where with_decisions must_take must_roll is_asked_in_checkpoint checkpoint_label is_asked_in_rollback rollback_label count_peers count_where total_below
returns-clause-aborts_rest c = refl

pub returns-clause-once : goal.returns-clause-once
unfolding with_parcel with_rest with_asks_where with_decisions must_take must_roll is_asked_in_checkpoint checkpoint_label is_asked_in_rollback rollback_label count_peers count_where total_below
returns-clause-once c = refl

pub returns-clause-nowhere : goal.returns-clause-nowhere
unfolding with_parcel with_rest with_asks_where with_decisions must_take must_roll is_asked_in_checkpoint checkpoint_label is_asked_in_rollback rollback_label count_peers count_where total_below
returns-clause-nowhere c = refl

pub returns-clause-told_zero : goal.returns-clause-told_zero
unfolding with_parcel with_rest with_asks_where with_decisions must_take must_roll is_asked_in_checkpoint checkpoint_label is_asked_in_rollback rollback_label count_peers count_where total_below
returns-clause-told_zero c = refl

pub returns-clause-told_one : goal.returns-clause-told_one
unfolding with_parcel with_rest with_asks_where with_decisions must_take must_roll is_asked_in_checkpoint checkpoint_label is_asked_in_rollback rollback_label count_peers count_where total_below
returns-clause-told_one c = refl
