-- Which part in an instance is a manager's own.
use Rattle.std.specs.Prelude.{◌≡◌, ℕ, ◌<◌, ◌≤◌, length}
use Rattle.kt_process.specs.Shown.{part_shown, inst_shown}
use Rattle.kt_manager.specs.Nodes.{NodeState}
use Rattle.kt_manager.specs.Inboxes.{kept_of}
use Rattle.kt_manager.specs.Managers.{ManagerState, size_of, number_in}

-- its process is in an instance exactly where that has a name, and as many messages of each sender are kept as its part marks
pub record HasOwnPart (w : ManagerState) : Type 0 where
  pub named : inst_shown w.process.side ≡ number_in w.inst
  pub marks : (q : ℕ) → q < size_of w → (part_shown w.process.side).marks q ≤ length (kept_of w.inbox q)

-- a node keeps as many messages of each sender as its part marks
abbrev pub HasOwnMarks : NodeState → Type 0
HasOwnMarks y = (q : ℕ) → y.part.marks q ≤ length (y.kept q)
