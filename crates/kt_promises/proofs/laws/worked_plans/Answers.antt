use Rattle.std.proofs.Common.{arith, refl}
use Rattle.kt_tables.specs.Peers.{count_peers}
use Rattle.kt_machine.specs.ListChanges.{with_parcel, with_rest, with_asks_where, with_decisions}
use Rattle.kt_machine.specs.CallTests.{must_take, must_roll, is_asked_in_checkpoint, checkpoint_label, is_asked_in_rollback, rollback_label}
use Rattle.kt_promises.specs.Tallies.{total_below, count_where}
use Rattle.kt_promises.specs.WorkedPlans.{checkpoint_two_phases_later}
use Rattle.kt_promises.proofs.WorkedLimits.{plan_of_two}
use Rattle.kt_promises.proofs.laws.worked_plans.Goals as goal

pub returns-clause-is_plan : goal.returns-clause-is_plan
returns-clause-is_plan c = plan_of_two checkpoint_two_phases_later.commands (omega arith) (omega arith, (omega arith, omega arith), omega arith, (omega arith, tt, omega arith, (omega arith, (omega arith, omega arith), omega arith, (omega arith, tt, omega arith, tt))))

pub returns-clause-steps : goal.returns-clause-steps
unfolding with_parcel with_rest with_asks_where with_decisions must_take must_roll is_asked_in_checkpoint checkpoint_label is_asked_in_rollback rollback_label count_peers count_where total_below
returns-clause-steps c = refl

pub returns-clause-rows : goal.returns-clause-rows
unfolding with_parcel with_rest with_asks_where with_decisions must_take must_roll is_asked_in_checkpoint checkpoint_label is_asked_in_rollback rollback_label count_peers count_where total_below
returns-clause-rows c = refl

pub returns-clause-in_transit : goal.returns-clause-in_transit
unfolding with_parcel with_rest with_asks_where with_decisions must_take must_roll is_asked_in_checkpoint checkpoint_label is_asked_in_rollback rollback_label count_peers count_where total_below
returns-clause-in_transit c = refl

pub returns-clause-arrived : goal.returns-clause-arrived
unfolding with_parcel with_rest with_asks_where with_decisions must_take must_roll is_asked_in_checkpoint checkpoint_label is_asked_in_rollback rollback_label count_peers count_where total_below
returns-clause-arrived c = refl

pub returns-clause-too_soon : goal.returns-clause-too_soon
unfolding with_parcel with_rest with_asks_where with_decisions must_take must_roll is_asked_in_checkpoint checkpoint_label is_asked_in_rollback rollback_label count_peers count_where total_below
returns-clause-too_soon c = refl

pub returns-clause-rest : goal.returns-clause-rest
unfolding with_parcel with_rest with_asks_where with_decisions must_take must_roll is_asked_in_checkpoint checkpoint_label is_asked_in_rollback rollback_label count_peers count_where total_below
returns-clause-rest c = refl

pub returns-clause-begins : goal.returns-clause-begins
unfolding with_parcel with_rest with_asks_where with_decisions must_take must_roll is_asked_in_checkpoint checkpoint_label is_asked_in_rollback rollback_label count_peers count_where total_below
returns-clause-begins c = refl

pub returns-clause-joins : goal.returns-clause-joins
unfolding with_parcel with_rest with_asks_where with_decisions must_take must_roll is_asked_in_checkpoint checkpoint_label is_asked_in_rollback rollback_label count_peers count_where total_below
returns-clause-joins c = refl

pub returns-clause-late : goal.returns-clause-late
returns-clause-late c = refl

pub returns-clause-held : goal.returns-clause-held
unfolding with_parcel with_rest with_asks_where with_decisions must_take must_roll is_asked_in_checkpoint checkpoint_label is_asked_in_rollback rollback_label count_peers count_where total_below
returns-clause-held c = refl

pub returns-clause-received : goal.returns-clause-received
unfolding with_parcel with_rest with_asks_where with_decisions must_take must_roll is_asked_in_checkpoint checkpoint_label is_asked_in_rollback rollback_label count_peers count_where total_below
returns-clause-received c = refl

pub returns-clause-held_rest : goal.returns-clause-held_rest
unfolding with_parcel with_rest with_asks_where with_decisions must_take must_roll is_asked_in_checkpoint checkpoint_label is_asked_in_rollback rollback_label count_peers count_where total_below
returns-clause-held_rest c = refl
