use Rattle.std.proofs.Common.{refl}
use Rattle.kt_protocol.specs.Parcels.{messages_where, with_parcel, with_rest, with_checkpoint_asks, with_rollback_asks, with_decisions, put_back, emptied, kept_where}
use Rattle.kt_protocol.proofs.late.worked_late_runs.Goals as goal

pub returns-clause-keeps_older : goal.returns-clause-keeps_older
unfolding messages_where with_parcel with_rest with_checkpoint_asks with_rollback_asks with_decisions put_back emptied kept_where
returns-clause-keeps_older c = refl

pub returns-clause-keeps_newer : goal.returns-clause-keeps_newer
unfolding messages_where with_parcel with_rest with_checkpoint_asks with_rollback_asks with_decisions put_back emptied kept_where
returns-clause-keeps_newer c = refl

pub returns-clause-keeps_label : goal.returns-clause-keeps_label
unfolding messages_where with_parcel with_rest with_checkpoint_asks with_rollback_asks with_decisions put_back emptied kept_where
returns-clause-keeps_label c = refl

pub returns-clause-older_is_forgotten : goal.returns-clause-older_is_forgotten
unfolding messages_where with_parcel with_rest with_checkpoint_asks with_rollback_asks with_decisions put_back emptied kept_where
returns-clause-older_is_forgotten c = refl

pub returns-clause-label_is_new : goal.returns-clause-label_is_new
unfolding messages_where with_parcel with_rest with_checkpoint_asks with_rollback_asks with_decisions put_back emptied kept_where
returns-clause-label_is_new c = refl

pub returns-clause-forgets_older : goal.returns-clause-forgets_older
unfolding messages_where with_parcel with_rest with_checkpoint_asks with_rollback_asks with_decisions put_back emptied kept_where
returns-clause-forgets_older c = refl

pub returns-clause-forgets_no_newer : goal.returns-clause-forgets_no_newer
unfolding messages_where with_parcel with_rest with_checkpoint_asks with_rollback_asks with_decisions put_back emptied kept_where
returns-clause-forgets_no_newer c = refl

pub returns-clause-renews_label : goal.returns-clause-renews_label
unfolding messages_where with_parcel with_rest with_checkpoint_asks with_rollback_asks with_decisions put_back emptied kept_where
returns-clause-renews_label c = refl

pub returns-clause-holds_newer : goal.returns-clause-holds_newer
unfolding messages_where with_parcel with_rest with_checkpoint_asks with_rollback_asks with_decisions put_back emptied kept_where
returns-clause-holds_newer c = refl

pub returns-clause-keeps_undone : goal.returns-clause-keeps_undone
unfolding messages_where with_parcel with_rest with_checkpoint_asks with_rollback_asks with_decisions put_back emptied kept_where
returns-clause-keeps_undone c = refl

pub returns-clause-is_put_back : goal.returns-clause-is_put_back
unfolding messages_where with_parcel with_rest with_checkpoint_asks with_rollback_asks with_decisions put_back emptied kept_where
returns-clause-is_put_back c = refl

pub returns-clause-puts_back : goal.returns-clause-puts_back
unfolding messages_where with_parcel with_rest with_checkpoint_asks with_rollback_asks with_decisions put_back emptied kept_where
returns-clause-puts_back c = refl

pub returns-clause-drops_undone : goal.returns-clause-drops_undone
unfolding messages_where with_parcel with_rest with_checkpoint_asks with_rollback_asks with_decisions put_back emptied kept_where
returns-clause-drops_undone c = refl
