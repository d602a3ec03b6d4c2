-- What one process's manager has, and what it does at a step.
use Rattle.std.specs.Prelude.{ℕ, ◌==◌, ◌&&◌, if◌then◌else◌, Bool, true, false, Option, None, is_some, List, [], ◌∷◌, ◌++◌}
use Rattle.kt_tables.specs.Calls.{Call}
use Rattle.kt_machine.specs.Seen.{SeenPart, no_part}
use Rattle.kt_machine.specs.Values.{Act}
use Rattle.kt_spacetime.specs.declared.names.InstName.{InstName}
use Rattle.kt_spacetime.specs.declared.named_rows.NamedEvent.{NamedEvent}
use Rattle.kt_manager.specs.declared.parcels.NodeParcel.{NodeParcel}

-- a list of parcels for each other process
abbrev pub NodeLists : Type 0
NodeLists = ℕ → List NodeParcel

pub record NodeState : Type 0 where
  -- how many processes there are, and which of them it is
  pub processes : ℕ
  pub me : ℕ
  -- the calls that were made on its tables, and the last label that it used
  pub calls : List Call
  pub used : ℕ
  -- how many instances it began, the open instance that it is in, and its part in it
  pub begun : ℕ
  pub inst : Option InstName
  pub part : SeenPart
  -- whether its object is up
  pub up : Bool
  -- by sender: what it holds while it is in a rollback, and what it received past its permanent checkpoint
  pub held : NodeLists
  pub kept : NodeLists
  -- by process: the instance that its last ask named, and whether it has replied in the instance at hand
  pub asks : ℕ → Option InstName
  pub answered : ℕ → Bool

pub record Doing : Type 0 where
  -- what it is by now
  pub state : NodeState
  -- so far, in order: the parcels that it put for each process, the rows that it told, the acts of its object
  pub puts : NodeLists
  pub rows : List NamedEvent
  pub acts : List Act

-- nothing so far
abbrev pub nothing : NodeState → Doing
nothing y = record { state = y; puts = λ q. []; rows = []; acts = [] }

-- with one more parcel to each process that passes the test
abbrev pub putting : (ℕ → Bool) → (ℕ → NodeParcel) → NodeLists → NodeLists
putting test parcel lists q = if test q then lists q ++ parcel q ∷ [] else lists q

-- with one more of q, or for q
abbrev pub with_one : ℕ → NodeParcel → NodeLists → NodeLists
with_one q x lists = putting (λ u. u == q) (λ u. x) lists

-- the one of n processes that has done nothing yet, with its labels after this one
abbrev pub opening_node : ℕ → ℕ → ℕ → NodeState
opening_node n me first = record {
  processes = n;
  me = me;
  calls = [];
  used = first;
  begun = 0;
  inst = None;
  part = no_part;
  up = true;
  held = λ q. [];
  kept = λ q. [];
  asks = λ q. None;
  answered = λ q. false;
}

-- it is in a rollback
abbrev pub is_in_rollback : NodeState → Bool
is_in_rollback y = is_some y.inst && y.part.is_rollback
