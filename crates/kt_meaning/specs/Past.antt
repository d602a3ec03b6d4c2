-- What is known after the rows of a log: live histories, positions, who is in which instance, who is up.
use Rattle.std.specs.Prelude.{ℕ, zero, suc, ◌+◌, ◌==◌, ◌&&◌, ◌||◌, if◌then◌else◌, Bool, true, false, Option, Some, None, is_some, option_map, unwrap_or, List, [], ◌∷◌, ◌++◌, length, take, fold, slice_get}
use Rattle.kt_base.specs.declared.words.Kind.{Kind}
use Rattle.kt_base.specs.declared.words.Kind.TheVariants.{Checkpoint, Rollback}
use Rattle.kt_spacetime.specs.declared.event.Event.{Event}
use Rattle.kt_spacetime.specs.declared.event.Event.TheVariants.{Sent, Received, Dropped, Began, Took, Ready, Decided, Closed, Failed}
use Rattle.kt_spacetime.specs.declared.deeds.Deed.{Deed}
use Rattle.kt_spacetime.specs.declared.deeds.Deed.TheVariants as deed

-- who began an instance, and of which kind it is
pub record Beginning : Type 0 where
  pub initiator : ℕ
  pub kind : Kind

-- what is known after some rows
pub record Past : Type 0 where
  -- how many rows there are
  pub rows : ℕ
  -- a process's live history
  pub live : ℕ → List Deed
  -- a process's permanent position
  pub permanent : ℕ → ℕ
  -- an instance's new position of a process that has a took row of it
  pub new : ℕ → ℕ → Option ℕ
  -- whether an instance has a ready row of a process
  pub ready : ℕ → ℕ → Bool
  -- the instances, in the order in which they began
  pub begun : List Beginning
  -- whether a decided instance is committed
  pub decision : ℕ → Option Bool
  -- the open instance that a process is in
  pub open_in : ℕ → Option ℕ
  -- whether a process is up
  pub up : ℕ → Bool
  -- whether a message has a dropped row
  pub dropped : ℕ → Bool
  -- what a process dropped since its last closed row of a committed rollback
  pub dropped_since : ℕ → List Deed
  -- the last row
  pub last : Option Event

abbrev pub start : Past
start = record {
  rows = 0;
  live = λ p. [];
  permanent = λ p. 0;
  new = λ k p. None;
  ready = λ k p. false;
  begun = [];
  decision = λ k. None;
  open_in = λ p. None;
  up = λ p. true;
  dropped = λ m. false;
  dropped_since = λ p. [];
  last = None;
}

-- a function with another value at one place
abbrev pub at_one : {X : Type 0} → ℕ → X → (ℕ → X) → ℕ → X
at_one p x f q = if q == p then x else f q

-- a function with another value at one place of two
abbrev pub at_pair : {X : Type 0} → ℕ → ℕ → X → (ℕ → ℕ → X) → ℕ → ℕ → X
at_pair k p x f j q = if (j == k) && (q == p) then x else f j q

-- how an instance began; instances are numbered from 1
abbrev pub beginning_of : Past → ℕ → Option Beginning
beginning_of s zero = None
beginning_of s (suc k) = slice_get s.begun k

abbrev pub kind_of : Past → ℕ → Option Kind
kind_of s k = option_map (λ b. b.kind) (beginning_of s k)

abbrev pub initiator_of : Past → ℕ → Option ℕ
initiator_of s k = option_map (λ b. b.initiator) (beginning_of s k)

abbrev pub is_checkpoint_kind : Option Kind → Bool
is_checkpoint_kind (Some Checkpoint) = true
is_checkpoint_kind (Some Rollback) = false
is_checkpoint_kind None = false

abbrev pub is_rollback_kind : Option Kind → Bool
is_rollback_kind (Some Checkpoint) = false
is_rollback_kind (Some Rollback) = true
is_rollback_kind None = false

abbrev pub is_checkpoint : Past → ℕ → Bool
is_checkpoint s k = is_checkpoint_kind (kind_of s k)

abbrev pub is_rollback : Past → ℕ → Bool
is_rollback s k = is_rollback_kind (kind_of s k)

abbrev pub is_committed : Past → ℕ → Bool
is_committed s k = unwrap_or (s.decision k) false

-- whether a process has a took or ready row of an instance
abbrev pub is_member : Past → ℕ → ℕ → Bool
is_member s k p = is_some (s.new k p) || s.ready k p

-- the committed decision of a rollback cuts each of its members' histories back to the permanent position
abbrev pub live_after : Past → Event → ℕ → List Deed
live_after s (Sent p to body) q = at_one p (s.live p ++ deed.Sent (s.rows + 1) to ∷ []) s.live q
live_after s (Received p from msg) q = at_one p (s.live p ++ deed.Received msg from ∷ []) s.live q
live_after s (Decided p k true) q = if s.ready k q then take (s.permanent q) (s.live q) else s.live q
live_after s _ q = s.live q

-- the committed decision of a checkpoint makes each of its members' new positions permanent
abbrev pub permanent_after : Past → Event → ℕ → ℕ
permanent_after s (Decided p k true) q = unwrap_or (s.new k q) (s.permanent q)
permanent_after s _ q = s.permanent q

abbrev pub new_after : Past → Event → ℕ → ℕ → Option ℕ
new_after s (Took p k) = at_pair k p (Some (length (s.live p))) s.new
new_after s _ = s.new

abbrev pub ready_after : Past → Event → ℕ → ℕ → Bool
ready_after s (Ready p k) = at_pair k p true s.ready
ready_after s _ = s.ready

abbrev pub begun_after : Past → Event → List Beginning
begun_after s (Began p k kind) = s.begun ++ record { initiator = p; kind = kind } ∷ []
begun_after s _ = s.begun

abbrev pub decision_after : Past → Event → ℕ → Option Bool
decision_after s (Decided p k commit) = at_one k (Some commit) s.decision
decision_after s _ = s.decision

abbrev pub open_after : Past → Event → ℕ → Option ℕ
open_after s (Took p k) = at_one p (Some k) s.open_in
open_after s (Ready p k) = at_one p (Some k) s.open_in
open_after s (Closed p k) = at_one p None s.open_in
open_after s _ = s.open_in

-- a process is down from its failure until it closes a committed rollback
abbrev pub up_after : Past → Event → ℕ → Bool
up_after s (Failed p) = at_one p false s.up
up_after s (Closed p k) = at_one p (s.up p || (is_rollback s k && is_committed s k)) s.up
up_after s _ = s.up

abbrev pub dropped_after : Past → Event → ℕ → Bool
dropped_after s (Dropped p from msg) = at_one msg true s.dropped
dropped_after s _ = s.dropped

abbrev pub dropped_since_after : Past → Event → ℕ → List Deed
dropped_since_after s (Dropped p from msg) = at_one p (s.dropped_since p ++ deed.Received msg from ∷ []) s.dropped_since
dropped_since_after s (Closed p k) = at_one p (if is_rollback s k && is_committed s k then [] else s.dropped_since p) s.dropped_since
dropped_since_after s _ = s.dropped_since

-- one more row
abbrev pub after : Past → Event → Past
after s row = record {
  rows = s.rows + 1;
  live = live_after s row;
  permanent = permanent_after s row;
  new = new_after s row;
  ready = ready_after s row;
  begun = begun_after s row;
  decision = decision_after s row;
  open_in = open_after s row;
  up = up_after s row;
  dropped = dropped_after s row;
  dropped_since = dropped_since_after s row;
  last = Some row;
}

-- what is known after a log
abbrev pub past : List Event → Past
past log = fold after start log
