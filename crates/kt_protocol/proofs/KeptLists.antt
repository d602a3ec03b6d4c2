-- What is known of the lists of a late state.
use Rattle.std.proofs.Common.{◌≡◌, ℕ, ◌<◌, Bool, true, false}
use Rattle.kt_protocol.proofs.Weights.{weigh, one_app}
use Rattle.kt_protocol.specs.Parcels.{messages_where}
use Rattle.kt_protocol.specs.States.{State}
use Rattle.kt_protocol.specs.LateClosing.{is_newer, is_within_label}
use Rattle.kt_protocol.specs.OnceClosed.{has_to_save, has_to_restore, held_once_closed, once_closed}
use Rattle.kt_protocol.specs.KeptInOrder.{has_only_messages, is_in_checkpoint, IsParted}
use Rattle.kt_protocol.proofs.MessageLists.{only_append, only_where}

-- who has a committed checkpoint to close received what is kept for it; in a checkpoint what is older is kept first; and what
-- is kept and held is messages alone
pub record KeptLists (c : State) : Type 0 where
  pub received : (p q m : ℕ) → has_to_save c.so_far p ≡ true → 0 < weigh (one_app m) (c.kept q p) → (c.so_far.is_received m ≡ true) × (c.so_far.to m ≡ p)
  pub parted : (p q : ℕ) → is_in_checkpoint c.so_far p ≡ true → IsParted (is_newer c p) (c.kept q p)
  pub kept_messages : (q p : ℕ) → has_only_messages (c.kept q p) ≡ true
  pub held_messages : (q p : ℕ) → has_only_messages (c.held q p) ≡ true

-- so what is held once each instance is closed is messages alone
pub held_closed_messages : (c : State) (q p : ℕ) → KeptLists c → has_only_messages ((once_closed c).held q p) ≡ true
held_closed_messages c q p d = go (has_to_restore c.so_far p)
  where
    go : (r : Bool) → has_only_messages (held_once_closed r (is_within_label c (c.so_far.open_in p) p q) (c.kept q p) (c.held q p)) ≡ true
    go true = only_append (messages_where (is_within_label c (c.so_far.open_in p) p q) (c.kept q p)) (messages_where (is_within_label c (c.so_far.open_in p) p q) (c.held q p)) (only_where (is_within_label c (c.so_far.open_in p) p q) (c.kept q p)) (only_where (is_within_label c (c.so_far.open_in p) p q) (c.held q p))
    go false = d.held_messages q p
