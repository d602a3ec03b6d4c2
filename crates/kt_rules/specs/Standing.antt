-- When tables stand for the rows of a log.
use Rattle.std.specs.Prelude.{◌≡◌, ℕ, zero, suc, ◌<◌, ◌≤◌, ◌&&◌, if◌then◌else◌, Bool, false, Option, Some, None, List, [], length, map, slice_get, slice_index_or}
use Rattle.kt_base.specs.Sets.{has}
use Rattle.kt_base.specs.declared.words.Kind.{Kind}
use Rattle.kt_spacetime.specs.declared.event.Event.{Event}
use Rattle.kt_spacetime.specs.declared.event.Event.TheVariants.{Sent, Began}
use Rattle.kt_rules.specs.declared.instances.Instance.{Instance}
use Rattle.kt_meaning.specs.Past.{Past, Beginning, is_checkpoint_kind, is_rollback_kind}
use Rattle.kt_meaning.specs.Legal.{broken_rule}
use Rattle.kt_rules.specs.Tables.{is_committed_decision}
use Rattle.kt_rules.specs.Lists.{NumbersRise, sent_in, received_in}

-- the item of a number; numbers begin at 1
abbrev pub at_number : {X : Type 0} → List X → ℕ → Option X
at_number xs zero = None
at_number xs (suc n) = slice_get xs n

abbrev pub beginning_shown : Instance → Beginning
beginning_shown v = record { initiator = v.initiator; kind = v.kind }

abbrev pub decision_shown : Option Instance → Option Bool
decision_shown None = None
decision_shown (Some v) = v.decision

abbrev pub new_shown : Option Instance → ℕ → Option ℕ
new_shown None p = None
new_shown (Some v) p = if is_checkpoint_kind (Some v.kind) && has v.joined p then Some (slice_index_or v.positions p 0) else None

abbrev pub ready_shown : Option Instance → ℕ → Bool
ready_shown None p = false
ready_shown (Some v) p = is_rollback_kind (Some v.kind) && has v.joined p

abbrev pub kind_shown : Option Instance → Option Kind
kind_shown None = None
kind_shown (Some v) = Some v.kind

abbrev pub rolled_back_shown : Option Instance → Bool
rolled_back_shown None = false
rolled_back_shown (Some v) = is_rollback_kind (Some v.kind) && is_committed_decision v.decision

-- the instances' tables are what is known of them
pub record ShowsInstances (instances : List Instance) (s : Past) : Type 0 where
  pub begun : map beginning_shown instances ≡ s.begun
  pub decision : (k : ℕ) → decision_shown (at_number instances k) ≡ s.decision k
  pub new : (k p : ℕ) → new_shown (at_number instances k) p ≡ s.new k p
  pub ready : (k p : ℕ) → ready_shown (at_number instances k) p ≡ s.ready k p
  pub positions : (k : ℕ) (v : Instance) → at_number instances k ≡ Some v → length v.positions ≡ 64

-- the messages of a history rise in their order
pub record IsInOrder (s : Past) : Type 0 where
  pub sent : (p : ℕ) → NumbersRise (sent_in (s.live p))
  pub received : (p q : ℕ) → NumbersRise (received_in q (s.live p))
  pub dropped : (p q : ℕ) → NumbersRise (received_in q (s.dropped_since p))

abbrev pub beginning_of_row : Option Event → Option (ℕ × ℕ)
beginning_of_row (Some (Began p k kind)) = Some (p, k)
beginning_of_row _ = None

-- the sender and the receiver of the message that a row sends
abbrev pub parties_of_row : Event → Option (ℕ × ℕ)
parties_of_row (Sent p to body) = Some (p, to)
parties_of_row _ = None

-- a row that breaks no rule
pub record IsAllowed (s : Past) (row : Event) : Type 0 where
  pub unbroken : broken_rule s row ≡ None
