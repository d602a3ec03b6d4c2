-- The rules of beginning and joining an instance.
use Rattle.std.specs.Prelude.{ℕ, zero, suc, ◌+◌, ◌==◌, ◌&&◌, nat_lt, nat_le, if◌then◌else◌, Bool, true, false, [], ◌∷◌, ◌++◌}
use Rattle.kt_spacetime.specs.declared.event.Event.TheVariants.{Began, Took, Ready}
use Rattle.kt_base.specs.declared.words.Kind.{Kind}
use Rattle.kt_base.specs.declared.words.Kind.TheVariants.{Checkpoint, Rollback}
use Rattle.kt_meaning.specs.Past.{at_one, at_pair}
use Rattle.kt_protocol.specs.Parcels.{Lists, with_checkpoint_asks, with_rollback_asks}
use Rattle.kt_protocol.specs.Summary.{summary_after, summary_began}
use Rattle.kt_protocol.specs.States.{State}

-- how many numbers below n pass the test
unfoldable pub count_below : ℕ → (ℕ → Bool) → ℕ
count_below zero f = 0
count_below (suc n) f = (if f n then 1 else 0) + count_below n f

abbrev pub kind_for : Bool → Kind
kind_for true = Rollback
kind_for false = Checkpoint

-- p begins the next instance
abbrev pub after_began : State → ℕ → Bool → State
after_began s p roll = record s {
  log = s.log ++ Began p (s.instances + 1) (kind_for roll) ∷ [];
  so_far = summary_began s.so_far (s.instances + 1) roll;
  instances = s.instances + 1;
  initiator = at_one (s.instances + 1) p s.initiator;
}

-- an ask with this label makes p take a checkpoint: p sent q a message since its last checkpoint, and the first such
-- one is no later than the label
abbrev pub must_take : State → ℕ → ℕ → ℕ → Bool
must_take s p q label = nat_lt 0 (s.first_sent p q) && nat_le (s.first_sent p q) label

-- an ask with this label makes p roll back: p received of q a later message since its last checkpoint
abbrev pub must_roll : State → ℕ → ℕ → ℕ → Bool
must_roll s p q label = nat_lt label (s.last_received p q)

-- p joins checkpoint k, which it began, or else by its parent's ask and for the message `link`: it takes a tentative
-- checkpoint and asks each process of which it received since its last one; what its tables have since then is set aside
abbrev pub after_joining_checkpoint : State → Lists → ℕ → ℕ → Bool → ℕ → ℕ → State
after_joining_checkpoint s channel p k is_first parent link = record s {
  log = s.log ++ Took p k ∷ [];
  so_far = summary_after s.so_far (Took p k);
  channel = with_checkpoint_asks channel s.last_received p k;
  asks = at_one k (s.asks k + count_below s.processes (λ v. nat_lt 0 (s.last_received p v))) s.asks;
  parent = at_pair k p parent s.parent;
  asked = λ i u v. if i == k && u == p then nat_lt 0 (s.last_received p v) else s.asked i u v;
  awaits = λ i u v. if i == k && u == p then nat_lt 0 (s.last_received p v) else s.awaits i u v;
  all_willing = at_pair k p true s.all_willing;
  has_answered = at_pair k p is_first s.has_answered;
  link = at_pair k p link s.link;
  saved_at = at_one p (s.so_far.size p) s.saved_at;
  first_sent = λ u v. if u == p then 0 else s.first_sent u v;
  last_received = λ u v. if u == p then 0 else s.last_received u v;
  first_sent_aside = λ u v. if u == p then s.first_sent p v else s.first_sent_aside u v;
  last_received_aside = λ u v. if u == p then s.last_received p v else s.last_received_aside u v;
}

-- p joins rollback k, so too: it asks each process to which it sent since its last checkpoint
abbrev pub after_joining_rollback : State → Lists → ℕ → ℕ → Bool → ℕ → ℕ → State
after_joining_rollback s channel p k is_first parent link = record s {
  log = s.log ++ Ready p k ∷ [];
  so_far = summary_after s.so_far (Ready p k);
  channel = with_rollback_asks channel s.first_sent s.last_sent p k;
  asks = at_one k (s.asks k + count_below s.processes (λ v. nat_lt 0 (s.first_sent p v))) s.asks;
  parent = at_pair k p parent s.parent;
  asked = λ i u v. if i == k && u == p then nat_lt 0 (s.first_sent p v) else s.asked i u v;
  awaits = λ i u v. if i == k && u == p then nat_lt 0 (s.first_sent p v) else s.awaits i u v;
  all_willing = at_pair k p true s.all_willing;
  has_answered = at_pair k p is_first s.has_answered;
  link = at_pair k p link s.link;
}
