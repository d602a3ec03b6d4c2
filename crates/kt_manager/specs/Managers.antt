-- What a manager holds, and which state of a node that is.
use Rattle.std.specs.Prelude.{◌≡◌, ℕ, ◌<◌, ◌&&◌, if◌then◌else◌, Bool, Option, Some, None, is_some, List, map}
use Rattle.kt_machine.specs.Seen.{SeenProcess}
use Rattle.kt_process.specs.ProcessStates.{ProcessState, is_ready}
use Rattle.kt_process.specs.Shown.{IsSeenAs, part_shown}
use Rattle.kt_spacetime.specs.declared.names.InstName.{InstName}
use Rattle.kt_manager.specs.declared.parcels.NodeParcel.{NodeParcel}
use Rattle.kt_manager.specs.declared.parcels.NodeParcel.TheVariants.{App}
use Rattle.kt_manager.specs.declared.received.Item.{Item}
use Rattle.kt_manager.specs.Nodes.{NodeLists, NodeState}
use Rattle.kt_manager.specs.NodeSteps.{is_one}
use Rattle.kt_manager.specs.NodeClosing.{after_checkpoint, after_rollback}
use Rattle.kt_manager.specs.Inboxes.{InboxLists, processes_of, kept_of, held_of}

-- which process it is; its process, the name of the open instance that this is in, and its messages of each other one
pub record ManagerState : Type 0 where
  pub me : ℕ
  pub process : ProcessState
  pub inst : Option InstName
  pub inbox : InboxLists

-- how many processes there are
abbrev pub size_of : ManagerState → ℕ
size_of w = w.process.tables.processes

-- its messages are of all processes
pub record IsSoundManager (w : ManagerState) : Type 0 where
  pub me : w.me < size_of w
  pub inbox : processes_of w.inbox ≡ size_of w

-- a message as a node has it
abbrev pub as_parcel : Item → NodeParcel
as_parcel x = App x.label x.body

abbrev pub as_parcels : (ℕ → List Item) → NodeLists
as_parcels lists q = map as_parcel (lists q)

-- its process counts instances by two numbers: 1 for the one that it is in, or may join now, and 2 for any other
abbrev pub number_in : Option InstName → ℕ
number_in None = 0
number_in (Some name) = 1

abbrev pub number_for : Option InstName → InstName → ℕ
number_for None k = 1
number_for (Some name) k = if is_one name k then 1 else 2

abbrev pub process_of : NodeState → SeenProcess
process_of y = record { calls = y.calls; used = y.used; inst = number_in y.inst; part = y.part; up = y.up }

-- whether it is in a rollback
abbrev pub is_rolling : ManagerState → Bool
is_rolling w = is_some w.inst && is_ready w.process.side

-- how many replies it awaits
abbrev pub awaited_by : ManagerState → ℕ
awaited_by w = (part_shown w.process.side).awaited

-- but for its process and the instance of that, it is this state of a node
pub record HoldsFor (w : ManagerState) (y : NodeState) : Type 0 where
  pub processes : size_of w ≡ y.processes
  pub me : w.me ≡ y.me
  pub held : as_parcels (held_of w.inbox) ≡ y.held
  pub kept : as_parcels (kept_of w.inbox) ≡ y.kept

-- a manager is this state of a node, whatever this began, was asked and was answered
pub record ShowsManager (w : ManagerState) (y : NodeState) : Type 0 where
  pub holds : HoldsFor w y
  pub process : IsSeenAs w.process (process_of y)
  pub inst : w.inst ≡ y.inst

-- the same manager, but for spare room; and but for its process
pub record IsSameManager (new old : ManagerState) : Type 0 where
  pub me : new.me ≡ old.me
  pub process : new.process ≡ old.process
  pub inst : new.inst ≡ old.inst
  pub held : held_of new.inbox ≡ held_of old.inbox
  pub kept : kept_of new.inbox ≡ kept_of old.inbox

pub record IsTurned (new old : ManagerState) : Type 0 where
  pub size : size_of new ≡ size_of old
  pub me : new.me ≡ old.me
  pub inst : new.inst ≡ old.inst
  pub inbox : new.inbox ≡ old.inbox

-- what a node is that has closed its instance
abbrev pub after_closing : Bool → NodeState → NodeState
after_closing commit y = if y.part.is_rollback then after_rollback commit y else after_checkpoint commit y
