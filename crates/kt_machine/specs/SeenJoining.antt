-- The transitions of beginning and joining an instance, and of noting an ask.
use Rattle.std.specs.Prelude.{ℕ, ◌+◌, ◌==◌, ◌&&◌, if◌then◌else◌, Bool, true, false, Option, Some, None, [], ◌∷◌, ◌++◌, length}
use Rattle.kt_base.specs.declared.words.Kind.TheVariants.{Checkpoint, Rollback}
use Rattle.kt_spacetime.specs.declared.event.Event.TheVariants.{Began, Took, Ready}
use Rattle.kt_meaning.specs.Past.{at_one}
use Rattle.kt_tables.specs.Calls.{on_tentative}
use Rattle.kt_tables.specs.Peers.{count_peers}
use Rattle.kt_protocol.specs.Joining.{kind_for}
use Rattle.kt_machine.specs.Seen.{SeenPart, SeenLists, Seen}
use Rattle.kt_machine.specs.ListChanges.{with_asks_where}
use Rattle.kt_machine.specs.CallTests.{is_asked_in_checkpoint, checkpoint_label, is_asked_in_rollback, rollback_label}

-- a process that has just joined awaits a reply of each process that it asked, and has heard of nobody unwilling
abbrev pub new_part : ℕ → Bool → Option ℕ → (ℕ → Bool) → (ℕ → Option ℕ) → (ℕ → ℕ) → SeenPart
new_part processes roll parent asked noted marks =
    record { is_rollback = roll; parent = parent; asked = asked; awaited = count_peers processes asked; willing = true; noted = noted; marks = marks }

-- no label is noted
abbrev pub no_note : ℕ → Option ℕ
no_note q = None

-- p begins the next instance
abbrev pub seen_began : Seen → ℕ → Bool → Seen
seen_began v p roll = record v { log = v.log ++ Began p (v.begun + 1) (kind_for roll) ∷ []; begun = v.begun + 1 }

-- p joins checkpoint k: it takes a tentative checkpoint, marks what is kept, and asks
abbrev pub seen_joining_checkpoint : Seen → SeenLists → ℕ → ℕ → Option ℕ → Seen
seen_joining_checkpoint v channel p k parent = record v {
  states = at_one p (record (v.states p) { calls = (v.states p).calls ++ on_tentative ∷ []; inst = k; part = new_part v.processes false parent (is_asked_in_checkpoint (v.states p).calls) no_note (λ q. length (v.kept q p)) }) v.states;
  channel = with_asks_where channel p k Checkpoint (is_asked_in_checkpoint (v.states p).calls) (checkpoint_label (v.states p).calls);
  log = v.log ++ Took p k ∷ [];
}

-- p joins rollback k with these labels noted, and asks
abbrev pub seen_joining_rollback : Seen → SeenLists → ℕ → ℕ → Option ℕ → (ℕ → Option ℕ) → Seen
seen_joining_rollback v channel p k parent noted = record v {
  states = at_one p (record (v.states p) { inst = k; part = new_part v.processes true parent (is_asked_in_rollback (v.states p).calls) noted (λ q. 0) }) v.states;
  channel = with_asks_where channel p k Rollback (is_asked_in_rollback (v.states p).calls) (rollback_label (v.states p).calls);
  log = v.log ++ Ready p k ∷ [];
}

-- a part after an ask of q: a rollback notes its label
abbrev pub part_after_ask : SeenPart → ℕ → ℕ → SeenPart
part_after_ask part q label = record part { noted = λ y. if part.is_rollback && y == q then Some label else part.noted y }

-- p hears an ask of q to join the instance that it is in, a rollback or not
abbrev pub seen_member_ask : Seen → Bool → ℕ → ℕ → ℕ → Seen
seen_member_ask v roll p q label =
    record v { states = at_one p (record (v.states p) { part = if roll then part_after_ask (v.states p).part q label else (v.states p).part }) v.states }

-- so where its part says which kind that is
abbrev pub seen_noting : Seen → ℕ → ℕ → ℕ → Seen
seen_noting v p q label = record v { states = at_one p (record (v.states p) { part = part_after_ask (v.states p).part q label }) v.states }
