-- The transitions of messages, failures and refused commands.
use Rattle.std.specs.Prelude.{ℕ, ℤ, ◌+◌, if◌then◌else◌, false, List, [], ◌∷◌, ◌++◌, length}
use Rattle.kt_base.specs.declared.words.Cause.{Cause}
use Rattle.kt_base.specs.declared.words.Verb.{Verb}
use Rattle.kt_fifo.specs.declared.parcels.Parcel.{Parcel}
use Rattle.kt_fifo.specs.declared.parcels.Parcel.TheVariants.{App}
use Rattle.kt_spacetime.specs.declared.event.Event.TheVariants.{Sent, Received, Dropped, Failed, Refused}
use Rattle.kt_meaning.specs.Past.{at_one}
use Rattle.kt_tables.specs.Calls.{sent, received}
use Rattle.kt_machine.specs.Seen.{SeenLists, Seen}
use Rattle.kt_machine.specs.ListChanges.{with_parcel, with_rest}

-- p sends a message to q: it has p's next label, and its number is that of its row
abbrev pub seen_sending : Seen → ℕ → ℕ → ℤ → Seen
seen_sending v p q body = record v {
  states = at_one p (record (v.states p) { calls = (v.states p).calls ++ sent q ((v.states p).used + 1) ∷ []; used = (v.states p).used + 1 }) v.states;
  channel = with_parcel v.channel p q (App ((v.states p).used + 1) (length v.log + 1) body);
  log = v.log ++ Sent p q body ∷ [];
}

-- p receives q's message m, which leaves these channels and held lists
abbrev pub seen_receiving : Seen → SeenLists → SeenLists → ℕ → ℕ → ℕ → ℕ → ℤ → Seen
seen_receiving v channel held p q label m body = record v {
  states = at_one p (record (v.states p) { calls = (v.states p).calls ++ received q label ∷ [] }) v.states;
  channel = channel;
  held = held;
  kept = with_parcel v.kept q p (App label m body);
  log = v.log ++ Received p q m ∷ [];
}

-- p drops q's message m
abbrev pub seen_dropping : Seen → SeenLists → SeenLists → ℕ → ℕ → ℕ → Seen
seen_dropping v channel held p q m = record v { channel = channel; held = held; log = v.log ++ Dropped p q m ∷ [] }

-- a message is received by who is up, and dropped by who is down
abbrev pub seen_arrival : Seen → SeenLists → SeenLists → ℕ → ℕ → ℕ → ℕ → ℤ → Seen
seen_arrival v channel held p q label m body = if (v.states p).up then seen_receiving v channel held p q label m body else seen_dropping v channel held p q m

-- p, which is in a rollback, holds what was in front in the channel from q
abbrev pub seen_holding : Seen → ℕ → ℕ → Parcel → List Parcel → Seen
seen_holding v p q x rest = record v { channel = with_rest v.channel q p rest; held = with_parcel v.held q p x }

-- p takes what was in front in the channel from q
abbrev pub seen_without_front : Seen → ℕ → ℕ → List Parcel → Seen
seen_without_front v p q rest = record v { channel = with_rest v.channel q p rest }

abbrev pub seen_failing : Seen → ℕ → Seen
seen_failing v p = record v { states = at_one p (record (v.states p) { up = false }) v.states; log = v.log ++ Failed p ∷ [] }

-- p refuses a command
abbrev pub seen_refusal : Seen → ℕ → Verb → Cause → Seen
seen_refusal v p verb cause = record v { log = v.log ++ Refused p verb cause ∷ [] }
