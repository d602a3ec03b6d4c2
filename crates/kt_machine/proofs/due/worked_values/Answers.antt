use Rattle.std.proofs.Common.{refl}
use Rattle.kt_protocol.specs.Parcels.{with_parcel, with_rest, with_checkpoint_asks, with_decisions, with_rollback_asks, messages_where, put_back, emptied, kept_where}
use Rattle.kt_machine.proofs.due.worked_values.Goals as goal

pub returns-clause-keeps_then_promotes : goal.returns-clause-keeps_then_promotes
unfolding with_parcel with_rest with_checkpoint_asks with_decisions with_rollback_asks messages_where put_back emptied kept_where
returns-clause-keeps_then_promotes c = refl

pub returns-clause-promotes_first : goal.returns-clause-promotes_first
unfolding with_parcel with_rest with_checkpoint_asks with_decisions with_rollback_asks messages_where put_back emptied kept_where
returns-clause-promotes_first c = refl

pub returns-clause-is_still_tentative : goal.returns-clause-is_still_tentative
unfolding with_parcel with_rest with_checkpoint_asks with_decisions with_rollback_asks messages_where put_back emptied kept_where
returns-clause-is_still_tentative c = refl

pub returns-clause-is_permanent_once_closed : goal.returns-clause-is_permanent_once_closed
unfolding with_parcel with_rest with_checkpoint_asks with_decisions with_rollback_asks messages_where put_back emptied kept_where
returns-clause-is_permanent_once_closed c = refl

pub returns-clause-restores_from_a_spare : goal.returns-clause-restores_from_a_spare
unfolding with_parcel with_rest with_checkpoint_asks with_decisions with_rollback_asks messages_where put_back emptied kept_where
returns-clause-restores_from_a_spare c = refl

pub returns-clause-restores : goal.returns-clause-restores
unfolding with_parcel with_rest with_checkpoint_asks with_decisions with_rollback_asks messages_where put_back emptied kept_where
returns-clause-restores c = refl

pub returns-clause-has_what_came_again : goal.returns-clause-has_what_came_again
unfolding with_parcel with_rest with_checkpoint_asks with_decisions with_rollback_asks messages_where put_back emptied kept_where
returns-clause-has_what_came_again c = refl

pub returns-clause-discards : goal.returns-clause-discards
unfolding with_parcel with_rest with_checkpoint_asks with_decisions with_rollback_asks messages_where put_back emptied kept_where
returns-clause-discards c = refl

pub returns-clause-abort_changes_nothing : goal.returns-clause-abort_changes_nothing
unfolding with_parcel with_rest with_checkpoint_asks with_decisions with_rollback_asks messages_where put_back emptied kept_where
returns-clause-abort_changes_nothing c = refl

pub returns-clause-keeps_and_promotes_at_once : goal.returns-clause-keeps_and_promotes_at_once
unfolding with_parcel with_rest with_checkpoint_asks with_decisions with_rollback_asks messages_where put_back emptied kept_where
returns-clause-keeps_and_promotes_at_once c = refl

pub returns-clause-has_offers : goal.returns-clause-has_offers
unfolding with_parcel with_rest with_checkpoint_asks with_decisions with_rollback_asks messages_where put_back emptied kept_where
returns-clause-has_offers c = (λ m u. refl, (λ m u. refl, (λ m u. refl, tt)))
