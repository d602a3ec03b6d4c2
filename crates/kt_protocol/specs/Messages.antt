-- The rules of messages, failures and refused commands.
use Rattle.std.specs.Prelude.{ℕ, ℤ, ◌+◌, ◌==◌, nat_lt, if◌then◌else◌, false, List, [], ◌∷◌, ◌++◌}
use Rattle.kt_spacetime.specs.declared.event.Event.TheVariants.{Sent, Received, Dropped, Failed, Refused}
use Rattle.kt_base.specs.declared.words.Cause.{Cause}
use Rattle.kt_base.specs.declared.words.Verb.{Verb}
use Rattle.kt_meaning.specs.Past.{at_one, at_pair}
use Rattle.kt_protocol.specs.Parcels.{Parcel, App, Lists, with_parcel, with_rest}
use Rattle.kt_protocol.specs.Summary.{summary_after}
use Rattle.kt_protocol.specs.States.{State}

-- p sends a message to q; its number is that of its row
abbrev pub after_sending : State → ℕ → ℕ → ℤ → State
after_sending s p q body = record s {
  log = s.log ++ Sent p q body ∷ [];
  so_far = summary_after s.so_far (Sent p q body);
  channel = with_parcel s.channel p q (App (s.so_far.rows + 1));
  first_sent = at_pair p q (if s.first_sent p q == 0 then s.so_far.rows + 1 else s.first_sent p q) s.first_sent;
  latest_sent = at_pair p q (s.so_far.rows + 1) s.latest_sent;
}

-- p receives q's message m, which leaves these channels and held lists
abbrev pub after_receiving : State → Lists → Lists → ℕ → ℕ → ℕ → State
after_receiving s channel held p q m = record s {
  log = s.log ++ Received p q m ∷ [];
  so_far = summary_after s.so_far (Received p q m);
  channel = channel;
  held = held;
  kept = with_parcel s.kept q p (App m);
  received_since = with_parcel s.received_since q p (App m);
  arrived_since = with_parcel s.arrived_since q p (App m);
  last_received = at_pair p q (if nat_lt (s.last_received p q) m then m else s.last_received p q) s.last_received;
}

-- p drops q's message m
abbrev pub after_dropping : State → Lists → Lists → ℕ → ℕ → ℕ → State
after_dropping s channel held p q m = record s {
  log = s.log ++ Dropped p q m ∷ [];
  so_far = summary_after s.so_far (Dropped p q m);
  channel = channel;
  held = held;
  arrived_since = with_parcel s.arrived_since q p (App m);
}

-- a message is received by who is up, and dropped by who is down
abbrev pub after_arrival : State → Lists → Lists → ℕ → ℕ → ℕ → State
after_arrival s channel held p q m = if s.up p then after_receiving s channel held p q m else after_dropping s channel held p q m

-- p, which is in a rollback, holds q's message m
abbrev pub after_holding : State → ℕ → ℕ → ℕ → List Parcel → State
after_holding s p q m rest = record s { channel = with_rest s.channel q p rest; held = with_parcel s.held q p (App m) }

abbrev pub after_failing : State → ℕ → State
after_failing s p = record s {
  log = s.log ++ Failed p ∷ [];
  so_far = summary_after s.so_far (Failed p);
  up = at_one p false s.up;
}

-- p refuses a command
abbrev pub after_refusal : State → ℕ → Verb → Cause → State
after_refusal s p verb cause = record s {
  log = s.log ++ Refused p verb cause ∷ [];
  so_far = summary_after s.so_far (Refused p verb cause);
}
