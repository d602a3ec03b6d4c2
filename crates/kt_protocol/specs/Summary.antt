-- A log in numbers: where messages stand in live histories, positions, and who is in which instance.
use Rattle.std.specs.Prelude.{ℕ, ◌+◌, ◌&&◌, not, nat_le, if◌then◌else◌, Bool, true, false, Some, List, [], ◌∷◌, ◌++◌, take, fold}
use Rattle.kt_spacetime.specs.declared.event.Event.{Event}
use Rattle.kt_spacetime.specs.declared.event.Event.TheVariants.{Sent, Received, Dropped, Began, Took, Ready, Unwilling, Decided, Closed, Failed, Refused}
use Rattle.kt_spacetime.specs.declared.deeds.Deed.{Deed}
use Rattle.kt_spacetime.specs.declared.deeds.Deed.TheVariants as deed
use Rattle.kt_meaning.specs.Past.{at_one, at_pair, is_rollback_kind}

-- what is known after some rows
pub record Summary : Type 0 where
  -- how many rows there are
  pub rows : ℕ
  -- of a process: its live history and the length of it, its permanent position, and the open instance that it is in,
  -- 0 for none
  pub live : ℕ → List Deed
  pub size : ℕ → ℕ
  pub permanent : ℕ → ℕ
  pub open_in : ℕ → ℕ
  -- of an instance and a process: whether the process is a member, its new position in a checkpoint, and how many rows
  -- stand before it joined
  pub joined : ℕ → ℕ → Bool
  pub new : ℕ → ℕ → ℕ
  pub joined_at : ℕ → ℕ → ℕ
  -- of an instance: its kind, its decision, and whether some process was unwilling to join
  pub is_rollback : ℕ → Bool
  pub is_decided : ℕ → Bool
  pub is_committed : ℕ → Bool
  pub has_unwilling : ℕ → Bool
  -- of a message: whether its send is live, by whom and to whom, and at which place, counted from 0; whether its
  -- receive is live, and at which place; whether it was dropped
  pub is_sent : ℕ → Bool
  pub from : ℕ → ℕ
  pub to : ℕ → ℕ
  pub sent_at : ℕ → ℕ
  pub is_received : ℕ → Bool
  pub received_at : ℕ → ℕ
  pub dropped : ℕ → Bool

abbrev pub summary_start : Summary
summary_start = record {
  rows = 0;
  live = λ p. [];
  size = λ p. 0;
  permanent = λ p. 0;
  open_in = λ p. 0;
  joined = λ k p. false;
  new = λ k p. 0;
  joined_at = λ k p. 0;
  is_rollback = λ k. false;
  is_decided = λ k. false;
  is_committed = λ k. false;
  has_unwilling = λ k. false;
  is_sent = λ m. false;
  from = λ m. 0;
  to = λ m. 0;
  sent_at = λ m. 0;
  is_received = λ m. false;
  received_at = λ m. 0;
  dropped = λ m. false;
}

-- a commit of rollback k undoes a message that a member sent past its permanent position
abbrev pub is_undone : Summary → ℕ → ℕ → Bool
is_undone h k m = h.joined k (h.from m) && nat_le (h.permanent (h.from m)) (h.sent_at m)

-- and the receive of one that a member received past its permanent position
abbrev pub is_unreceived : Summary → ℕ → ℕ → Bool
is_unreceived h k m = h.joined k (h.to m) && nat_le (h.permanent (h.to m)) (h.received_at m)

-- the commit of k: a rollback cuts its members' histories back to their permanent positions, a checkpoint makes their
-- new positions permanent
abbrev pub summary_committed : Bool → Summary → ℕ → Summary
summary_committed true h k = record h {
  rows = h.rows + 1;
  live = λ q. if h.joined k q then take (h.permanent q) (h.live q) else h.live q;
  size = λ q. if h.joined k q then h.permanent q else h.size q;
  is_sent = λ m. h.is_sent m && not (is_undone h k m);
  is_received = λ m. h.is_received m && not (is_unreceived h k m);
  is_decided = at_one k true h.is_decided;
  is_committed = at_one k true h.is_committed;
}
summary_committed false h k = record h {
  rows = h.rows + 1;
  permanent = λ q. if h.joined k q then h.new k q else h.permanent q;
  is_decided = at_one k true h.is_decided;
  is_committed = at_one k true h.is_committed;
}

abbrev pub summary_began : Summary → ℕ → Bool → Summary
summary_began h k roll = record h { rows = h.rows + 1; is_rollback = at_one k roll h.is_rollback }

-- one more row
abbrev pub summary_after : Summary → Event → Summary
summary_after h (Sent p q body) = record h {
  rows = h.rows + 1;
  live = at_one p (h.live p ++ deed.Sent (h.rows + 1) q ∷ []) h.live;
  size = at_one p (h.size p + 1) h.size;
  is_sent = at_one (h.rows + 1) true h.is_sent;
  from = at_one (h.rows + 1) p h.from;
  to = at_one (h.rows + 1) q h.to;
  sent_at = at_one (h.rows + 1) (h.size p) h.sent_at;
}
summary_after h (Received p q m) = record h {
  rows = h.rows + 1;
  live = at_one p (h.live p ++ deed.Received m q ∷ []) h.live;
  size = at_one p (h.size p + 1) h.size;
  is_received = at_one m true h.is_received;
  received_at = at_one m (h.size p) h.received_at;
}
summary_after h (Dropped p q m) = record h { rows = h.rows + 1; dropped = at_one m true h.dropped }
summary_after h (Failed p) = record h { rows = h.rows + 1 }
summary_after h (Refused p verb cause) = record h { rows = h.rows + 1 }
summary_after h (Began p k kind) = summary_began h k (is_rollback_kind (Some kind))
summary_after h (Ready p k) = record h {
  rows = h.rows + 1;
  joined = at_pair k p true h.joined;
  joined_at = at_pair k p h.rows h.joined_at;
  open_in = at_one p k h.open_in;
}
summary_after h (Took p k) = record h {
  rows = h.rows + 1;
  joined = at_pair k p true h.joined;
  new = at_pair k p (h.size p) h.new;
  joined_at = at_pair k p h.rows h.joined_at;
  open_in = at_one p k h.open_in;
}
summary_after h (Unwilling p k cause) = record h { rows = h.rows + 1; has_unwilling = at_one k true h.has_unwilling }
summary_after h (Decided p k false) = record h { rows = h.rows + 1; is_decided = at_one k true h.is_decided; is_committed = at_one k false h.is_committed }
summary_after h (Decided p k true) = summary_committed (h.is_rollback k) h k
summary_after h (Closed p k) = record h { rows = h.rows + 1; open_in = at_one p 0 h.open_in }

-- what is known after a log
abbrev pub summary : List Event → Summary
summary log = fold summary_after summary_start log
