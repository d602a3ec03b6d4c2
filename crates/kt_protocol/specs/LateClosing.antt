-- The rules of deciding and closing, where a commit takes effect late: for each member at its own closed row.
use Rattle.std.specs.Prelude.{ℕ, ◌+◌, ◌==◌, ◌&&◌, ◌||◌, not, nat_lt, nat_le, if◌then◌else◌, Bool, true, false, [], ◌∷◌, ◌++◌}
use Rattle.kt_spacetime.specs.declared.event.Event.TheVariants.{Decided, Closed}
use Rattle.kt_meaning.specs.Past.{at_one, at_pair}
use Rattle.kt_protocol.specs.Parcels.{messages_where, emptied, with_decisions}
use Rattle.kt_protocol.specs.Summary.{summary_after, summary_committed}
use Rattle.kt_protocol.specs.States.{State}
use Rattle.kt_protocol.specs.Joining.{count_below}
use Rattle.kt_protocol.specs.Deciding.{after_closing_checkpoint, after_closing_rollback}

-- p received m since its last checkpoint, tentative or permanent
abbrev pub is_newer : State → ℕ → ℕ → Bool
is_newer s p m = nat_le (s.saved_at p) (s.so_far.received_at m)

-- q's message m is not above the label of q's ask to join rollback k, if p noted one
abbrev pub is_within_label : State → ℕ → ℕ → ℕ → ℕ → Bool
is_within_label s k p q m = not (s.noted k p q && nat_lt (s.noted_label k p q) m)

-- p decides k, committed or not, a rollback or not: the row is written, and no process does anything yet. What is there for
-- the laws alone is kept up.
abbrev pub late_deciding_as : Bool → Bool → State → ℕ → ℕ → State
late_deciding_as false roll s p k = record s {
  log = s.log ++ Decided p k false ∷ [];
  so_far = summary_after s.so_far (Decided p k false);
}
late_deciding_as true roll s p k = record s {
  log = s.log ++ Decided p k true ∷ [];
  so_far = summary_committed roll s.so_far k;
  received_since = if roll then emptied (s.so_far.joined k) s.received_since else s.received_since;
  arrived_since = if roll then emptied (s.so_far.joined k) s.arrived_since else s.arrived_since;
}

-- it commits where all replies were willing
abbrev pub late_deciding : State → ℕ → ℕ → State
late_deciding s p k = late_deciding_as (s.all_willing k p) (s.so_far.is_rollback k) s p k

-- p closes checkpoint k and tells the decision to all that it asked: a commit makes p's tentative checkpoint permanent, and
-- p forgets what it received before it
abbrev pub late_closing_checkpoint : State → ℕ → ℕ → Bool → State
late_closing_checkpoint s p k true = record s {
  log = s.log ++ Closed p k ∷ [];
  so_far = summary_after s.so_far (Closed p k);
  channel = with_decisions s.channel s.asked p k true;
  decisions = at_one k (s.decisions k + count_below s.processes (s.asked k p)) s.decisions;
  has_closed = at_pair k p true s.has_closed;
  own_permanent = at_one p (s.saved_at p) s.own_permanent;
  last_sent = λ u v. if u == p then s.latest_sent u v else s.last_sent u v;
  kept = λ q u. if u == p then messages_where (is_newer s u) (s.kept q u) else s.kept q u;
}
late_closing_checkpoint s p k false = after_closing_checkpoint s p k false

-- p closes rollback k, so too: after a commit p is up and its tables are empty, and it puts back what is not above the
-- labels that it noted, kept before held
abbrev pub late_closing_rollback : State → ℕ → ℕ → Bool → State
late_closing_rollback s p k true = record s {
  log = s.log ++ Closed p k ∷ [];
  so_far = summary_after s.so_far (Closed p k);
  channel = with_decisions s.channel s.asked p k true;
  decisions = at_one k (s.decisions k + count_below s.processes (s.asked k p)) s.decisions;
  has_closed = at_pair k p true s.has_closed;
  up = at_one p (s.up p || true) s.up;
  first_sent = λ u v. if u == p then 0 else s.first_sent u v;
  last_received = λ u v. if u == p then 0 else s.last_received u v;
  kept = λ q u. if u == p then [] else s.kept q u;
  held = λ q u. if u == p then messages_where (is_within_label s k u q) (s.kept q u) ++ messages_where (is_within_label s k u q) (s.held q u) else s.held q u;
}
late_closing_rollback s p k false = after_closing_rollback s p k false

abbrev pub late_closing : State → ℕ → ℕ → Bool → State
late_closing s p k c = if s.so_far.is_rollback k then late_closing_rollback s p k c else late_closing_checkpoint s p k c
