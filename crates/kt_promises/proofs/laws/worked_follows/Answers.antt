use Rattle.std.proofs.Common.{◌≢◌, ◌<◌, ℕ, zero, suc, Some, take, arith, refl}
use Rattle.kt_tables.specs.Peers.{count_peers}
use Rattle.kt_machine.specs.ListChanges.{with_parcel, with_rest, with_asks_where, with_decisions}
use Rattle.kt_machine.specs.CallTests.{must_take, must_roll, is_asked_in_checkpoint, checkpoint_label, is_asked_in_rollback, rollback_label}
use Rattle.kt_plan.specs.Limits.{IsPlan}
use Rattle.kt_promises.specs.Tallies.{total_below, count_where}
use Rattle.kt_meaning.specs.Follows.{phase_at}
use Rattle.kt_promises.specs.WorkedPlans.{moves_of}
use Rattle.kt_promises.proofs.WorkedLimits.{plan_of_two, plan_of_three}
use Rattle.kt_promises.specs.WorkedRuns.{fails_twice, fails_twice_steps, fails_twice_log, rolls_back_then_aborts, rolls_back_then_aborts_moves, rolls_back_then_aborts_log}
use Rattle.kt_promises.specs.WorkedFollows.{two_messages_then_failure, two_messages_then_failure_steps, both_arrive, not_quiet, failure_before_message, failure_before_message_steps, one_dropped}
use Rattle.kt_promises.proofs.FollowsWorked.{worked_begins, worked_follows}
use Rattle.kt_promises.proofs.laws.worked_follows.Goals as goal

pub returns-clause-fails_twice : goal.returns-clause-fails_twice
unfolding with_parcel with_rest with_asks_where with_decisions must_take must_roll is_asked_in_checkpoint checkpoint_label is_asked_in_rollback rollback_label count_peers count_where total_below
returns-clause-fails_twice c = worked_follows fails_twice (moves_of fails_twice_steps) fails_twice_log
    (plan_of_two fails_twice.commands (omega arith) (omega arith, (omega arith, omega arith), omega arith, (omega arith, tt, omega arith, (omega arith, (omega arith, omega arith), omega arith, (omega arith, tt, omega arith, (omega arith, tt, omega arith, tt))))))
    refl refl

pub returns-clause-aborts : goal.returns-clause-aborts
unfolding with_parcel with_rest with_asks_where with_decisions must_take must_roll is_asked_in_checkpoint checkpoint_label is_asked_in_rollback rollback_label count_peers count_where total_below
returns-clause-aborts c = worked_follows rolls_back_then_aborts rolls_back_then_aborts_moves rolls_back_then_aborts_log
    (plan_of_three rolls_back_then_aborts.commands (omega arith) (omega arith, (omega arith, omega arith), omega arith, (omega arith, tt, omega arith, (omega arith, (omega arith, omega arith), omega arith, (omega arith, (omega arith, omega arith), omega arith, (omega arith, tt, omega arith, tt))))))
    refl refl

messages_plan : IsPlan two_messages_then_failure
messages_plan = plan_of_two two_messages_then_failure.commands (omega arith) (omega arith, (omega arith, omega arith), omega arith, (omega arith, (omega arith, omega arith), omega arith, (omega arith, tt, omega arith, tt)))

pub returns-clause-arrive : goal.returns-clause-arrive
unfolding with_parcel with_rest with_asks_where with_decisions must_take must_roll is_asked_in_checkpoint checkpoint_label is_asked_in_rollback rollback_label count_peers count_where total_below
returns-clause-arrive c = worked_follows two_messages_then_failure (moves_of two_messages_then_failure_steps) both_arrive messages_plan refl refl

pub returns-clause-drops : goal.returns-clause-drops
unfolding with_parcel with_rest with_asks_where with_decisions must_take must_roll is_asked_in_checkpoint checkpoint_label is_asked_in_rollback rollback_label count_peers count_where total_below
returns-clause-drops c = worked_follows failure_before_message (moves_of failure_before_message_steps) one_dropped
    (plan_of_two failure_before_message.commands (omega arith) (omega arith, (omega arith, omega arith), omega arith, (omega arith, tt, omega arith, tt)))
    refl refl

pub returns-clause-begun : goal.returns-clause-begun
unfolding with_parcel with_rest with_asks_where with_decisions must_take must_roll is_asked_in_checkpoint checkpoint_label is_asked_in_rollback rollback_label count_peers count_where total_below
returns-clause-begun c = worked_begins two_messages_then_failure (moves_of (take 4 two_messages_then_failure_steps)) (take 4 both_arrive) messages_plan refl

pub returns-clause-unended : goal.returns-clause-unended
returns-clause-unended c = λ f. f.commands 1

pub returns-clause-left_out : goal.returns-clause-left_out
returns-clause-left_out c = λ b. let x = b.phases.finished 2 1 1 0 _ refl refl (omega arith) in omega (arith, x)

pub returns-clause-swapped : goal.returns-clause-swapped
returns-clause-swapped c = λ b. let x = (b.commands 0).0.1 in cc (x)

pub returns-clause-too_early : goal.returns-clause-too_early
returns-clause-too_early c = λ b. let x = b.phases.finished 2 1 1 0 _ refl refl (omega arith) in omega (arith, x)

pub returns-clause-not_quiet : goal.returns-clause-not_quiet
returns-clause-not_quiet c = λ b. let x = (b.phases.quiet 3 1 refl first).arrived 2 0 1 refl refl in cc (x)
  where
    first : (m : ℕ) → m < 3 → phase_at two_messages_then_failure not_quiet m ≢ Some 1
    first zero l e = cc (e)
    first (suc zero) l e = cc (e)
    first (suc (suc zero)) l e = cc (e)
    first (suc (suc (suc m))) l e = omega (arith, l)

pub returns-clause-unasked : goal.returns-clause-unasked
returns-clause-unasked c = λ b. b.commands 1

pub returns-clause-on_its_way : goal.returns-clause-on_its_way
returns-clause-on_its_way c = λ f. let x = f.quiet_end.arrived 2 0 1 refl refl in cc (x)

pub returns-clause-undecided : goal.returns-clause-undecided
returns-clause-undecided c = λ f. let x = f.quiet_end.decided 1 (omega arith) (omega arith) in cc (x)
