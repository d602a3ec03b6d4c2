-- The rules of deciding and closing an instance.
use Rattle.std.specs.Prelude.{ℕ, zero, suc, ◌+◌, ◌==◌, ◌&&◌, ◌||◌, not, nat_lt, nat_le, if◌then◌else◌, Bool, true, false, List, [], ◌∷◌, ◌++◌}
use Rattle.kt_spacetime.specs.declared.event.Event.TheVariants.{Decided, Closed}
use Rattle.kt_meaning.specs.Past.{at_one, at_pair}
use Rattle.kt_protocol.specs.Parcels.{Parcel, with_rest, with_decisions, put_back, emptied, kept_where}
use Rattle.kt_protocol.specs.Summary.{summary_after, summary_committed, is_undone}
use Rattle.kt_protocol.specs.States.{State}
use Rattle.kt_protocol.specs.Joining.{count_below}

-- p decides k, committed or not, a rollback or not. A commit takes effect for all members at once: a checkpoint forgets
-- what was received before the new positions; a rollback cuts back, and puts back what stays live, kept before held.
abbrev pub after_deciding_as : Bool → Bool → State → ℕ → ℕ → State
after_deciding_as false roll s p k = record s {
  log = s.log ++ Decided p k false ∷ [];
  so_far = summary_after s.so_far (Decided p k false);
}
after_deciding_as true false s p k = record s {
  log = s.log ++ Decided p k true ∷ [];
  so_far = summary_committed false s.so_far k;
  last_sent = λ u v. if s.so_far.joined k u then s.latest_sent u v else s.last_sent u v;
  kept = kept_where (λ m. nat_le (s.so_far.new k (s.so_far.to m)) (s.so_far.received_at m)) (s.so_far.joined k) s.kept;
}
after_deciding_as true true s p k = record s {
  log = s.log ++ Decided p k true ∷ [];
  so_far = summary_committed true s.so_far k;
  first_sent = λ u v. if s.so_far.joined k u then 0 else s.first_sent u v;
  last_received = λ u v. if s.so_far.joined k u then 0 else s.last_received u v;
  held = put_back (λ m. not (is_undone s.so_far k m)) (s.so_far.joined k) s.kept s.held;
  kept = emptied (s.so_far.joined k) s.kept;
  received_since = emptied (s.so_far.joined k) s.received_since;
  arrived_since = emptied (s.so_far.joined k) s.arrived_since;
}

-- it commits where all replies were willing
abbrev pub after_deciding : State → ℕ → ℕ → State
after_deciding s p k = after_deciding_as (s.all_willing k p) (s.so_far.is_rollback k) s p k

-- p closes checkpoint k and tells the decision to all that it asked: a commit makes its tentative checkpoint permanent,
-- an abort gives the tables what was set aside
abbrev pub after_closing_checkpoint : State → ℕ → ℕ → Bool → State
after_closing_checkpoint s p k true = record s {
  log = s.log ++ Closed p k ∷ [];
  so_far = summary_after s.so_far (Closed p k);
  channel = with_decisions s.channel s.asked p k true;
  decisions = at_one k (s.decisions k + count_below s.processes (s.asked k p)) s.decisions;
  has_closed = at_pair k p true s.has_closed;
  own_permanent = at_one p (s.saved_at p) s.own_permanent;
}
after_closing_checkpoint s p k false = record s {
  log = s.log ++ Closed p k ∷ [];
  so_far = summary_after s.so_far (Closed p k);
  channel = with_decisions s.channel s.asked p k false;
  decisions = at_one k (s.decisions k + count_below s.processes (s.asked k p)) s.decisions;
  has_closed = at_pair k p true s.has_closed;
  saved_at = at_one p (s.own_permanent p) s.saved_at;
  first_sent = λ u v. if u == p then s.first_sent_aside p v else s.first_sent u v;
  last_received = λ u v. if u == p then (if nat_lt (s.last_received_aside p v) (s.last_received p v) then s.last_received p v else s.last_received_aside p v) else s.last_received u v;
}

-- p closes rollback k and tells the decision to all that it asked: after a commit it is up
abbrev pub after_closing_rollback : State → ℕ → ℕ → Bool → State
after_closing_rollback s p k c = record s {
  log = s.log ++ Closed p k ∷ [];
  so_far = summary_after s.so_far (Closed p k);
  channel = with_decisions s.channel s.asked p k c;
  decisions = at_one k (s.decisions k + count_below s.processes (s.asked k p)) s.decisions;
  has_closed = at_pair k p true s.has_closed;
  up = at_one p (s.up p || c) s.up;
}

abbrev pub after_closing : State → ℕ → ℕ → Bool → State
after_closing s p k c = if s.so_far.is_rollback k then after_closing_rollback s p k c else after_closing_checkpoint s p k c

-- p takes q's decision
abbrev pub after_decision : State → ℕ → ℕ → List Parcel → State
after_decision s p q rest = record s { channel = with_rest s.channel q p rest }

-- no number below n passes the test
abbrev pub none_of : ℕ → (ℕ → Bool) → Bool
none_of zero f = true
none_of (suc n) f = not (f n) && none_of n f
