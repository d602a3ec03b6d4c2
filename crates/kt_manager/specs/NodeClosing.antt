-- The rules of answering, deciding and closing an instance.
use Rattle.std.specs.Prelude.{ℕ, ◌==◌, nat_le, if◌then◌else◌, Bool, true, false, Option, Some, None, List, [], ◌∷◌, ◌++◌, filter, drop}
use Rattle.kt_tables.specs.Calls.{on_rollback}
use Rattle.kt_machine.specs.Seen.{no_part}
use Rattle.kt_machine.specs.CallTests.{call_of_decision}
use Rattle.kt_machine.specs.Values.{closing as acts_of_closing}
use Rattle.kt_spacetime.specs.declared.names.InstName.{InstName}
use Rattle.kt_spacetime.specs.declared.named_rows.NamedEvent.TheVariants.{Decided, Closed}
use Rattle.kt_manager.specs.declared.parcels.NodeParcel.{NodeParcel}
use Rattle.kt_manager.specs.declared.parcels.NodeParcel.TheVariants.{App, Ask, Reply, Decide}
use Rattle.kt_manager.specs.Nodes.{NodeLists, NodeState, Doing, putting, with_one}

-- what it keeps once it closes a checkpoint: a commit forgets the first messages of each sender, as many as are marked
abbrev pub forgets : Bool → (ℕ → ℕ) → NodeLists → NodeLists
forgets true marks kept q = drop (marks q) (kept q)
forgets false marks kept q = kept q

-- whether a message's label is not above this one
abbrev pub is_within : ℕ → NodeParcel → Bool
is_within most (App label body) = nat_le label most
is_within most (Ask k kind label) = true
is_within most (Reply k w) = true
is_within most (Decide k c) = true

-- the messages that are not above the noted label, if one was noted
abbrev pub within : Option ℕ → List NodeParcel → List NodeParcel
within None messages = messages
within (Some most) messages = filter (is_within most) messages

-- what a node is that has closed a checkpoint, committed or not
abbrev pub after_checkpoint : Bool → NodeState → NodeState
after_checkpoint c y =
    record y { calls = y.calls ++ call_of_decision c ∷ []; inst = None; part = no_part; kept = forgets c y.part.marks y.kept }

-- and a rollback: after a commit its object is up, and it has to receive again what is not above the labels that it noted,
-- kept before held
abbrev pub after_rollback : Bool → NodeState → NodeState
after_rollback true y = record y {
  calls = y.calls ++ on_rollback ∷ [];
  inst = None;
  part = no_part;
  up = true;
  held = λ q. within (y.part.noted q) (y.kept q) ++ within (y.part.noted q) (y.held q);
  kept = λ q. [];
}
after_rollback false y = record y { inst = None; part = no_part }

-- it closes k, and tells the decision to all that it asked
abbrev pub closing : InstName → Bool → Doing → Doing
closing k c d = let y = d.state in record {
  state = if y.part.is_rollback then after_rollback c y else after_checkpoint c y;
  puts = putting y.part.asked (λ q. Decide k c) d.puts;
  rows = d.rows ++ Closed k ∷ [];
  acts = d.acts ++ acts_of_closing y.part.is_rollback c;
}

-- it answers its parent, willing where all replies to it were; an initiator decides so, and closes
abbrev pub ending : InstName → Option ℕ → Doing → Doing
ending k (Some to) d = record d { puts = with_one to (Reply k d.state.part.willing) d.puts }
ending k None d = closing k d.state.part.willing (record d { rows = d.rows ++ Decided k d.state.part.willing ∷ [] })

-- so it does once it awaits nobody
abbrev pub settling : InstName → Doing → Doing
settling k d = if d.state.part.awaited == 0 then ending k d.state.part.parent d else d
