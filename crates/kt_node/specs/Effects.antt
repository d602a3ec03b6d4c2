-- What a step puts out, as the node's rules have it.
use Rattle.std.specs.Prelude.{◌≡◌, ℕ, List}
use Rattle.kt_tables.specs.Calls.{Call}
use Rattle.kt_manager.specs.Nodes.{Doing}
use Rattle.kt_manager.specs.ShownActs.{acts_shown}
use Rattle.kt_manager.specs.Effects.{put_to}
use Rattle.kt_manager.specs.Told.{Told}
use Rattle.kt_node.specs.NodeHistories.{calls_told}
use Rattle.kt_node.specs.Managers.{ManagerState, ShowsNode}

-- the calls on tables that they tell
abbrev pub calls_of : Told → List Call
calls_of e = calls_told e.rows (acts_shown e.acts)

-- a manager has done this, and this is told of it
pub record IsDone (w : ManagerState) (e : Told) (d : Doing) : Type 0 where
  pub state : ShowsNode w d.state
  pub puts : (q : ℕ) → put_to e.parcels q ≡ d.puts q
  pub rows : e.rows ≡ d.rows
  pub acts : acts_shown e.acts ≡ d.acts
