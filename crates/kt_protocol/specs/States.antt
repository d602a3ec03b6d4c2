-- What processes and channels have, and what can happen next.
use Rattle.std.specs.Prelude.{ℕ, ℤ, ◌==◌, ◌&&◌, ◌||◌, not, Bool, true, false, List, []}
use Rattle.kt_spacetime.specs.declared.event.Event.{Event}
use Rattle.kt_protocol.specs.Parcels.{Lists, has_parcel}
use Rattle.kt_protocol.specs.Summary.{Summary, summary_start}

-- p's command to send to q; p's command to begin an instance, a rollback or not; a failure of p; p takes its next parcel
-- of q. A Boolean at the end says whether p's object can be saved.
pub data ProtocolStep : Type 0 where
  Send : ℕ → ℕ → ℤ → ProtocolStep
  Begin : ℕ → Bool → Bool → ProtocolStep
  Fail : ℕ → ProtocolStep
  Take : ℕ → ℕ → Bool → ProtocolStep

pub record State : Type 0 where
  -- how many processes there are
  pub processes : ℕ
  -- the log, and what is known of it
  pub log : List Event
  pub so_far : Summary
  -- what is in transit from a process to another one
  pub channel : Lists
  -- how many instances have begun
  pub instances : ℕ
  -- who began an instance; who made a process join and, for the laws alone, for which message it had to
  pub initiator : ℕ → ℕ
  pub parent : ℕ → ℕ → ℕ
  pub link : ℕ → ℕ → ℕ
  -- of an instance, a member and another process: whether it asked it, whether it still awaits its reply and, for the laws
  -- alone, whether it was sent one
  pub asked : ℕ → ℕ → ℕ → Bool
  pub awaits : ℕ → ℕ → ℕ → Bool
  pub has_reply : ℕ → ℕ → ℕ → Bool
  -- of an instance and a member: whether all replies so far were willing, whether it has answered its parent (an initiator
  -- owes no answer) and, for the laws alone, whether it has closed
  pub all_willing : ℕ → ℕ → Bool
  pub has_answered : ℕ → ℕ → Bool
  pub has_closed : ℕ → ℕ → Bool
  -- of a rollback, a process and another one: whether it noted the label of the other one's ask, and which
  pub noted : ℕ → ℕ → ℕ → Bool
  pub noted_label : ℕ → ℕ → ℕ → ℕ
  -- how many asks, replies and decisions of an instance were put into channels
  pub asks : ℕ → ℕ
  pub replies : ℕ → ℕ
  pub decisions : ℕ → ℕ
  -- the position of a process's permanent checkpoint as it knows it, and of its last tentative or permanent one
  pub own_permanent : ℕ → ℕ
  pub saved_at : ℕ → ℕ
  -- of a process and another one, 0 for none: the first message sent and the last received since that last checkpoint;
  -- what these were before a tentative one; the last message sent, and the last one before the permanent checkpoint
  pub first_sent : ℕ → ℕ → ℕ
  pub last_received : ℕ → ℕ → ℕ
  pub first_sent_aside : ℕ → ℕ → ℕ
  pub last_received_aside : ℕ → ℕ → ℕ
  pub latest_sent : ℕ → ℕ → ℕ
  pub last_sent : ℕ → ℕ → ℕ
  -- whether a process is up
  pub up : ℕ → Bool
  -- by sender and receiver: what waits for a receiver in a rollback; what it received past its permanent checkpoint
  pub held : Lists
  pub kept : Lists
  -- for the laws alone: what it received since it last rolled back, and what it received or dropped since
  pub received_since : Lists
  pub arrived_since : Lists

-- nothing has happened
abbrev pub opening : ℕ → State
opening n = record {
  processes = n;
  log = [];
  so_far = summary_start;
  channel = λ p q. [];
  instances = 0;
  initiator = λ k. 0;
  parent = λ k p. 0;
  link = λ k p. 0;
  asked = λ k p q. false;
  awaits = λ k p q. false;
  has_reply = λ k p q. false;
  all_willing = λ k p. true;
  has_answered = λ k p. true;
  has_closed = λ k p. false;
  noted = λ k p q. false;
  noted_label = λ k p q. 0;
  asks = λ k. 0;
  replies = λ k. 0;
  decisions = λ k. 0;
  own_permanent = λ p. 0;
  saved_at = λ p. 0;
  first_sent = λ p q. 0;
  last_received = λ p q. 0;
  first_sent_aside = λ p q. 0;
  last_received_aside = λ p q. 0;
  latest_sent = λ p q. 0;
  last_sent = λ p q. 0;
  up = λ p. true;
  held = λ p q. [];
  kept = λ p q. [];
  received_since = λ p q. [];
  arrived_since = λ p q. [];
}

-- p is in a rollback
abbrev pub is_ready : State → ℕ → Bool
is_ready s p = not (s.so_far.open_in p == 0) && s.so_far.is_rollback (s.so_far.open_in p)

-- p has something of q to take: what is in the channel or, in no rollback, a message that it holds
abbrev pub can_take : State → ℕ → ℕ → Bool
can_take s p q = has_parcel (s.channel q p) || not (is_ready s p) && has_parcel (s.held q p)
