-- What a manager with its guards holds, and which state of a node that is.
use Rattle.std.specs.Prelude.{◌≡◌, ℕ, ◌<◌, ◌≤◌, ◌^◌, Option, None, List, slice_index_or}
use Rattle.kt_base.specs.Sets.{has}
use Rattle.kt_process.specs.ProcessStates.{ProcessState}
use Rattle.kt_process.specs.Shown.{IsSeenAs}
use Rattle.kt_spacetime.specs.declared.names.InstName.{InstName}
use Rattle.kt_manager.specs.Nodes.{NodeState}
use Rattle.kt_manager.specs.Inboxes.{InboxLists, processes_of, kept_of, held_of}
use Rattle.kt_manager.specs.Managers.{as_parcels, process_of, ManagerState as CoreState}

-- how many processes there are and which of them it is; its process, the name of the open instance that this is in, and how
-- many it began; its messages of each other process; and by process the instance of its last ask, and who has replied in
-- the instance at hand
pub record ManagerState : Type 0 where
  pub size : ℕ
  pub me : ℕ
  pub process : ProcessState
  pub inst : Option InstName
  pub begun : ℕ
  pub inbox : InboxLists
  pub asks : List (Option InstName)
  pub answered : ℕ

-- the manager that it guards
abbrev pub core_of : ManagerState → CoreState
core_of w = record { me = w.me; process = w.process; inst = w.inst; inbox = w.inbox }

-- its tables and messages are of all processes, and its counts have names
pub record IsSoundManager (w : ManagerState) : Type 0 where
  pub few : w.size ≤ 64
  pub me : w.me < w.size
  pub tables : w.process.tables.processes ≡ w.size
  pub begun : w.begun < 2 ^ 48
  pub inbox : processes_of w.inbox ≡ w.size

-- but for its process, that process's instance and replies in it, it is this state of a node
pub record HoldsFor (w : ManagerState) (y : NodeState) : Type 0 where
  pub processes : w.size ≡ y.processes
  pub me : w.me ≡ y.me
  pub begun : w.begun ≡ y.begun
  pub held : as_parcels (held_of w.inbox) ≡ y.held
  pub kept : as_parcels (kept_of w.inbox) ≡ y.kept
  pub asks : (q : ℕ) → slice_index_or w.asks q None ≡ y.asks q

-- the same processes have replied
abbrev pub HasAnswered : ManagerState → NodeState → Type 0
HasAnswered w y = (q : ℕ) → has w.answered q ≡ y.answered q

-- what it guards itself by is that of a node
pub record HasGuards (w : ManagerState) (y : NodeState) : Type 0 where
  pub begun : w.begun ≡ y.begun
  pub asks : (q : ℕ) → slice_index_or w.asks q None ≡ y.asks q
  pub answered : HasAnswered w y

-- a manager is this state of a node
pub record ShowsNode (w : ManagerState) (y : NodeState) : Type 0 where
  pub holds : HoldsFor w y
  pub process : IsSeenAs w.process (process_of y)
  pub inst : w.inst ≡ y.inst
  pub answered : HasAnswered w y

-- the same manager, but for spare room
pub record IsSameManager (new old : ManagerState) : Type 0 where
  pub size : new.size ≡ old.size
  pub me : new.me ≡ old.me
  pub process : new.process ≡ old.process
  pub inst : new.inst ≡ old.inst
  pub begun : new.begun ≡ old.begun
  pub held : held_of new.inbox ≡ held_of old.inbox
  pub kept : kept_of new.inbox ≡ kept_of old.inbox
  pub asks : new.asks ≡ old.asks
  pub answered : new.answered ≡ old.answered
