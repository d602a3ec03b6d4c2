-- A system as the machine of what code keeps has it.
use Rattle.std.specs.Prelude.{◌≡◌, ◌<◌, ◌==◌, ℕ, Option, Some, None, List, drop, Bool, true, if◌then◌else◌, [], ◌∷◌, ◌++◌}
use Rattle.kt_base.specs.declared.words.Kind.{Kind}
use Rattle.kt_base.specs.declared.words.Kind.TheVariants.{Checkpoint, Rollback}
use Rattle.kt_spacetime.specs.declared.event.Event.TheVariants.{Took, Ready, Unwilling, Began}
use Rattle.kt_tables.specs.Peers.{IsCohort}
use Rattle.kt_process.specs.Shown.{goes_on, IsSeenAs}
use Rattle.kt_spacetime.specs.declared.event.Event.{Event}
use Rattle.kt_fifo.specs.Channels.{channel}
use Rattle.kt_machine.specs.Seen.{SeenPart, SeenProcess, SeenLists, Seen}
use Rattle.kt_machine.specs.ListChanges.{trims, with_asks_where, with_rest, with_parcel}
use Rattle.kt_machine.specs.InOnePiece.{held_after_rollback, kept_after_rollback}
use Rattle.kt_machine.specs.SeenClosing.{seen_settling, seen_deciding, seen_closing}
use Rattle.kt_machine.specs.SeenMessages.{seen_without_front, seen_refusal}
use Rattle.kt_machine.specs.SeenReplies.{seen_reply}
use Rattle.kt_base.specs.declared.words.Cause.{Cause}
use Rattle.kt_fifo.specs.declared.parcels.Parcel.{Parcel}
use Rattle.kt_fifo.specs.declared.parcels.Parcel.TheVariants as parcel
use Rattle.kt_process.specs.declared.actions.Action.{Action}
use Rattle.kt_process.specs.declared.actions.Action.TheVariants.{Nothing, Refuse, Join, Reply, Settle}
use Rattle.kt_meaning.specs.Past.{at_one}
use Rattle.kt_process.specs.ProcessStates.{inst_of}
use Rattle.kt_manager.specs.Turns.{begin_verb}
use Rattle.kt_system.specs.Systems.{Whole, state_of}

-- its processes, its lists of parcels and its log are those of a state of the machine
pub record ShowsState (w : Whole) (v : Seen) : Type 0 where
  pub processes : w.size ≡ v.processes
  pub states : (p : ℕ) → p < w.size → IsSeenAs (state_of w p) (v.states p)
  pub channels : channel w.channels ≡ v.channel
  pub held : channel w.held ≡ v.held
  pub kept : channel w.kept ≡ v.kept
  pub log : w.rows.rows ≡ v.log
  pub begun : w.begun ≡ v.begun

-- a state of the machine in which one process is another one
abbrev pub turned_to : Seen → ℕ → SeenProcess → Seen
turned_to v p y = record v { states = at_one p y v.states }

-- process p is in an instance
abbrev pub IsInside : Whole → ℕ → Type 0
IsInside w p = inst_of (state_of w p).side ≡ None → ⊥

-- with one row more
abbrev pub with_row : Seen → Event → Seen
with_row v row = record v { log = v.log ++ row ∷ [] }

-- process p alone may have changed
pub record IsTurned (old new : Whole) (p : ℕ) : Type 0 where
  pub size : new.size ≡ old.size
  pub others : (q : ℕ) → (q ≡ p → ⊥) → state_of new q ≡ state_of old q
  pub channels : new.channels ≡ old.channels
  pub held : new.held ≡ old.held
  pub kept : new.kept ≡ old.kept
  pub rows : new.rows ≡ old.rows
  pub begun : new.begun ≡ old.begun
  pub put : new.put ≡ old.put

-- the lists held and kept for a process that closes its instance, by its part there
abbrev pub held_closed : Bool → ℕ → SeenPart → SeenLists → SeenLists → SeenLists
held_closed commit p part kept held = if part.is_rollback then held_after_rollback commit p part.noted kept held else held

abbrev pub kept_closed : Bool → ℕ → SeenPart → SeenLists → SeenLists
kept_closed commit p part kept = if part.is_rollback then kept_after_rollback commit p kept else trims commit p part.marks kept

abbrev pub lists_closed : Seen → ℕ → Bool → Seen
lists_closed v p commit = record v { held = held_closed commit p (v.states p).part v.kept v.held; kept = kept_closed commit p (v.states p).part v.kept }

-- the row of a process that joins an instance of a kind
abbrev pub joined_row : Kind → ℕ → ℕ → Event
joined_row Checkpoint p k = Took p k
joined_row Rollback p k = Ready p k

-- p, which has joined k, asks those that pass a test, each with its label, and goes on where it awaits nobody
abbrev pub asking_and_settling : Seen → ℕ → ℕ → Kind → (ℕ → Bool) → (ℕ → ℕ) → Seen
asking_and_settling v p k kind test label = seen_settling (with_row (record v { channel = with_asks_where v.channel p k kind test label }) (joined_row kind p k)) p k

-- a message goes from the front of the channel, or of what is held
abbrev pub channel_without : Bool → Seen → ℕ → ℕ → SeenLists
channel_without is_held v at from = if is_held then v.channel else with_rest v.channel from at (drop 1 (v.channel from at))

abbrev pub held_without : Bool → Seen → ℕ → ℕ → SeenLists
held_without is_held v at from = if is_held then with_rest v.held from at (drop 1 (v.held from at)) else v.held

-- what follows from a reply
abbrev pub gone_on : Seen → ℕ → ℕ → Action → Seen
gone_on v p k (Reply to willing cause) = record v { channel = with_parcel v.channel p to (parcel.Reply k willing) }
gone_on v p k (Settle commit tell) = seen_closing (seen_deciding v p k commit) p k commit
gone_on v p k Nothing = v
gone_on v p k (Refuse cause) = v
gone_on v p k (Join asks goes) = v

-- what becomes of a process that takes a reply
abbrev pub after_reply_taken : Seen → ℕ → ℕ → ℕ → Bool → List Parcel → Seen
after_reply_taken v p q k w rest = if (v.states p).part.awaited == 0 then seen_without_front v p q rest else seen_settling (seen_reply v p q w rest) p k

-- what becomes of a process that takes a decision
abbrev pub after_decision_taken : Seen → ℕ → ℕ → ℕ → Bool → List Parcel → Seen
after_decision_taken v p q k c rest = if (v.states p).inst == k then seen_closing (seen_without_front v p q rest) p k c else seen_without_front v p q rest

-- the row of a process that is unwilling, where there is a cause
abbrev pub with_cause : Seen → ℕ → ℕ → Option Cause → Seen
with_cause v p k None = v
with_cause v p k (Some cause) = with_row v (Unwilling p k cause)

-- an action that joins asks a cohort, and the process has joined and goes on so
abbrev pub JoinsAs : Whole → Seen → ℕ → (ℕ → Bool) → (ℕ → ℕ) → Action → Type 0
JoinsAs w v p test label (Join asks goes) = IsCohort asks test label × (goes ≡ goes_on (v.states p).part) × ((v.states p).part.willing ≡ true) × IsInside w p
JoinsAs w v p test label Nothing = Unit {0}
JoinsAs w v p test label (Refuse cause) = Unit {0}
JoinsAs w v p test label (Reply to willing cause) = Unit {0}
JoinsAs w v p test label (Settle commit tell) = Unit {0}

-- instance k begins
abbrev pub with_instance : Seen → ℕ → ℕ → Kind → Seen
with_instance v p k kind = record v { log = v.log ++ Began p k kind ∷ []; begun = k }

-- what follows from a command to begin an instance, and from an ask to take part in one
abbrev pub begun_as : Seen → ℕ → ℕ → Kind → (ℕ → Bool) → (ℕ → ℕ) → Action → Seen
begun_as v p k kind test label (Refuse cause) = seen_refusal v p (begin_verb kind) cause
begun_as v p k kind test label (Join asks goes) = asking_and_settling (with_instance v p k kind) p k kind test label
begun_as v p k kind test label Nothing = v
begun_as v p k kind test label (Reply to willing cause) = v
begun_as v p k kind test label (Settle commit tell) = v

abbrev pub answered_as : Seen → ℕ → ℕ → ℕ → Kind → (ℕ → Bool) → (ℕ → ℕ) → Action → Seen
answered_as v p q k kind test label (Reply to willing cause) = with_cause (record v { channel = with_parcel v.channel p q (parcel.Reply k willing) }) p k cause
answered_as v p q k kind test label (Join asks goes) = asking_and_settling v p k kind test label
answered_as v p q k kind test label Nothing = v
answered_as v p q k kind test label (Refuse cause) = v
answered_as v p q k kind test label (Settle commit tell) = v
