-- What code keeps of the protocol's state: parcels with labels, the calls on each process's tables, and its part in an
-- instance.
use Rattle.std.specs.Prelude.{ℕ, ℤ, ◌==◌, ◌&&◌, not, if◌then◌else◌, Bool, true, false, Option, Some, None, List, [], ◌∷◌, length}
use Rattle.kt_fifo.specs.declared.parcels.Parcel.{Parcel as SeenParcel}
use Rattle.kt_fifo.specs.declared.parcels.Parcel.TheVariants as in_code
use Rattle.kt_spacetime.specs.declared.event.Event.{Event}
use Rattle.kt_tables.specs.Calls.{Call}
use Rattle.kt_tables.specs.Peers.{count_peers}
use Rattle.kt_protocol.specs.Joining.{kind_for}
use Rattle.kt_protocol.specs.Parcels.{Parcel, App, Ask, Reply, Decide, messages_where}
use Rattle.kt_protocol.specs.States.{State}
use Rattle.kt_protocol.specs.LateClosing.{is_newer}
use Rattle.kt_machine.specs.Labelling.{Labelling, labelling}

-- a process's part in an instance
pub record SeenPart : Type 0 where
  -- whether it is a rollback
  pub is_rollback : Bool
  -- whose ask it joined by, none for the initiator; whom it asked itself
  pub parent : Option ℕ
  pub asked : ℕ → Bool
  -- how many replies it still awaits, and whether all so far were willing
  pub awaited : ℕ
  pub willing : Bool
  -- in a rollback: the label that it noted of another process's ask
  pub noted : ℕ → Option ℕ
  -- in a checkpoint: by sender, how many of the messages that are kept were received before it
  pub marks : ℕ → ℕ

-- that of a process in no instance
abbrev pub no_part : SeenPart
no_part = record { is_rollback = false; parent = None; asked = λ q. false; awaited = 0; willing = true; noted = λ q. None; marks = λ q. 0 }

pub record SeenProcess : Type 0 where
  -- the calls that were made on its tables
  pub calls : List Call
  -- the last label that it used
  pub used : ℕ
  -- the open instance that it is in, 0 for none, and its part in it
  pub inst : ℕ
  pub part : SeenPart
  -- whether its object is up
  pub up : Bool

-- a list of parcels from each process to each other one
abbrev pub SeenLists : Type 0
SeenLists = ℕ → ℕ → List SeenParcel

pub record Seen : Type 0 where
  -- how many processes there are, and these
  pub processes : ℕ
  pub states : ℕ → SeenProcess
  -- by sender and receiver: what is in a channel, what is held for a receiver in a rollback, and what it received past its
  -- permanent checkpoint
  pub channel : SeenLists
  pub held : SeenLists
  pub kept : SeenLists
  -- the log, and how many instances have begun
  pub log : List Event
  pub begun : ℕ

-- a parcel with labels in place of the numbers of messages, and a message with its body; an ask has the kind of its instance
abbrev pub seen_parcel : (ℕ → ℕ) → (ℕ → ℤ) → (ℕ → Bool) → Parcel → SeenParcel
seen_parcel label body roll (App m) = in_code.App (label m) m (body m)
seen_parcel label body roll (Ask k m) = in_code.Ask k (kind_for (roll k)) (label m)
seen_parcel label body roll (Reply k w) = in_code.Reply k w
seen_parcel label body roll (Decide k c) = in_code.Decide k c

-- each of some parcels so
unfoldable pub seen_parcels : (ℕ → ℕ) → (ℕ → ℤ) → (ℕ → Bool) → List Parcel → List SeenParcel
seen_parcels label body roll [] = []
seen_parcels label body roll (x ∷ xs) = seen_parcel label body roll x ∷ seen_parcels label body roll xs

-- the label of message m, if it was noted
abbrev pub label_noted : (ℕ → ℕ) → Bool → ℕ → Option ℕ
label_noted label true m = Some (label m)
label_noted label false m = None

-- how many of q's messages that are kept for p were received before its last checkpoint, tentative or permanent
abbrev pub marks_of : State → ℕ → ℕ → ℕ
marks_of s p q = length (messages_where (λ m. not (is_newer s p m)) (s.kept q p))

-- p's part in instance k
abbrev pub part_of : Labelling → State → ℕ → ℕ → SeenPart
part_of t s p k = record {
  is_rollback = s.so_far.is_rollback k;
  parent = if p == s.initiator k then None else Some (s.parent k p);
  asked = λ q. s.asked k p q;
  awaited = count_peers s.processes (s.awaits k p);
  willing = s.all_willing k p;
  noted = λ q. label_noted t.label (s.so_far.is_rollback k && s.noted k p q) (s.noted_label k p q);
  marks = λ q. if s.so_far.is_rollback k then 0 else marks_of s p q;
}

-- what code keeps of process p
abbrev pub process_seen : Labelling → State → ℕ → SeenProcess
process_seen t s p = record {
  calls = t.calls p;
  used = t.used p;
  inst = s.so_far.open_in p;
  part = if s.so_far.open_in p == 0 then no_part else part_of t s p (s.so_far.open_in p);
  up = s.up p;
}

-- what code keeps of a state, by these labels, bodies and calls
abbrev pub view : Labelling → State → Seen
view t s = record {
  processes = s.processes;
  states = λ p. process_seen t s p;
  channel = λ p q. seen_parcels t.label t.body s.so_far.is_rollback (s.channel p q);
  held = λ p q. seen_parcels t.label t.body s.so_far.is_rollback (s.held p q);
  kept = λ p q. seen_parcels t.label t.body s.so_far.is_rollback (s.kept p q);
  log = s.log;
  begun = s.instances;
}

-- by those of its log, where each process's counter begins after this label
abbrev pub seen : ℕ → State → Seen
seen first s = view (labelling first s.log) s
