-- What a process does at once that has joined an instance or taken a reply, in one piece: what it becomes, the lists and
-- the log.
use Rattle.std.specs.Prelude.{ℕ, ◌==◌, if◌then◌else◌, Bool, true, false, Option, Some, None, List, [], ◌∷◌, ◌++◌}
use Rattle.kt_base.specs.declared.words.Kind.{Kind}
use Rattle.kt_fifo.specs.declared.parcels.Parcel.{Parcel}
use Rattle.kt_fifo.specs.declared.parcels.Parcel.TheVariants.{Ask, Reply}
use Rattle.kt_spacetime.specs.declared.event.Event.{Event}
use Rattle.kt_spacetime.specs.declared.event.Event.TheVariants.{Decided, Closed}
use Rattle.kt_meaning.specs.Past.{at_one}
use Rattle.kt_tables.specs.Calls.{on_rollback}
use Rattle.kt_machine.specs.Seen.{no_part, SeenProcess, SeenLists, Seen}
use Rattle.kt_machine.specs.ListChanges.{with_parcel, with_decisions, trims, low}
use Rattle.kt_machine.specs.CallTests.{call_of_decision}

-- process p becomes y, and these are the lists and the log
abbrev pub with_process : Seen → ℕ → SeenProcess → SeenLists → SeenLists → SeenLists → List Event → Seen
with_process v p y channel held kept log = record v { states = at_one p y v.states; channel = channel; held = held; kept = kept; log = log }

-- what a process becomes when it closes a checkpoint, and a rollback
abbrev pub process_after_checkpoint : SeenProcess → Bool → SeenProcess
process_after_checkpoint y c = record y { calls = y.calls ++ call_of_decision c ∷ []; inst = 0; part = no_part }

abbrev pub process_after_rollback : SeenProcess → Bool → SeenProcess
process_after_rollback y true = record y { calls = y.calls ++ on_rollback ∷ []; inst = 0; part = no_part; up = true }
process_after_rollback y false = record y { inst = 0; part = no_part }

-- the lists held and kept for a process when it closes a rollback
abbrev pub held_after_rollback : Bool → ℕ → (ℕ → Option ℕ) → SeenLists → SeenLists → SeenLists
held_after_rollback true p noted kept held q u = if u == p then low (noted q) (kept q u) ++ low (noted q) (held q u) else held q u
held_after_rollback false p noted kept held q u = held q u

abbrev pub kept_after_rollback : Bool → ℕ → SeenLists → SeenLists
kept_after_rollback true p kept q u = if u == p then [] else kept q u
kept_after_rollback false p kept q u = kept q u

-- with the rows of p's deciding and closing k
abbrev pub log_closed : List Event → ℕ → ℕ → Bool → List Event
log_closed log p k c = (log ++ Decided p k c ∷ []) ++ Closed p k ∷ []

-- p, which is y and awaits nobody, answers its parent, or decides and closes
abbrev pub ended : Seen → ℕ → ℕ → SeenProcess → Bool → Option ℕ → Seen
ended v p k y roll (Some to) = with_process v p y (with_parcel v.channel p to (Reply k y.part.willing)) v.held v.kept v.log
ended v p k y true None =
    with_process v p (process_after_rollback y y.part.willing) (with_decisions v.channel p k y.part.willing y.part.asked)
    (held_after_rollback y.part.willing p y.part.noted v.kept v.held) (kept_after_rollback y.part.willing p v.kept)
    (log_closed v.log p k y.part.willing)
ended v p k y false None =
    with_process v p (process_after_checkpoint y y.part.willing) (with_decisions v.channel p k y.part.willing y.part.asked)
    v.held (trims y.part.willing p y.part.marks v.kept) (log_closed v.log p k y.part.willing)

-- p becomes y, and goes on so where it awaits nobody
abbrev pub settled : Seen → ℕ → ℕ → SeenProcess → Seen
settled v p k y = if y.part.awaited == 0 then ended v p k y y.part.is_rollback y.part.parent else record v { states = at_one p y v.states }

-- the asks of instance k that go to v, of pairs of process and label
abbrev pub asks_to : ℕ → Kind → ℕ → List (ℕ × ℕ) → List Parcel
asks_to k kind v [] = []
asks_to k kind v (x ∷ xs) = if x.0 == v then Ask k kind x.1 ∷ asks_to k kind v xs else asks_to k kind v xs

-- with these asks of instance k from p
unfoldable pub with_asks : SeenLists → ℕ → ℕ → Kind → List (ℕ × ℕ) → SeenLists
with_asks lists p k kind asks u v = if u == p then lists u v ++ asks_to k kind v asks else lists u v
