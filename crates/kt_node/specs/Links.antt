-- A manager whose parcels have numbers and whose steps have clocks, and which knows how far its messages go.
use Rattle.std.specs.Prelude.{◌≡◌, ◌+◌, ◌-◌, ◌^◌, ◌<◌, ◌≤◌, ℕ, max, Bool, true, false, Option, None, Result, Ok, Err, List, length, slice_index}
use Rattle.kt_meaning.specs.Past.{at_one}
use Rattle.kt_tables.specs.Calls.{Speaks}
use Rattle.kt_manager.specs.Nodes.{NodeState}
use Rattle.kt_node.specs.Inputs.{Input}
use Rattle.kt_node.specs.NodeSteps.{node_after, taking}
use Rattle.kt_manager.specs.declared.parcels.NodeParcel.{NodeParcel}
use Rattle.kt_manager.specs.declared.parcels.NodeParcel.TheVariants.{App, Ask, Reply, Decide}
use Rattle.kt_node.specs.declared.node.Output.{Output}
use Rattle.kt_node.specs.declared.node.Taken.{Taken}
use Rattle.kt_node.specs.declared.node.Taken.TheVariants.{Step, Again}
use Rattle.kt_node.specs.declared.reach.Reaches.{Reaches}
use Rattle.kt_node.specs.Managers.{ManagerState, ShowsNode, IsSameManager}
use Rattle.kt_node.specs.Reaches.{HasReaches}
use Rattle.kt_node.specs.Effects.{IsDone}
use Rattle.kt_node.specs.declared.faults.ManagerFault.{ManagerFault}
use Rattle.kt_node.specs.declared.node.NodeFault.{NodeFault}
use Rattle.kt_node.specs.declared.node.NodeFault.TheVariants as fault
use Rattle.kt_node.specs.Faults.{but_memory}

-- its clock, how many parcels it put for each process and took of each, and how far the messages of its histories go
pub record NodeLinks : Type 0 where
  pub manager : ManagerState
  pub clock : ℕ
  pub sent : List ℕ
  pub taken : List ℕ
  pub reaches : Reaches

-- a node is this state of one
pub record ShowsLinks (w : NodeLinks) (y : NodeState) : Type 0 where
  pub manager : ShowsNode w.manager y
  pub reaches : HasReaches w.reaches y.calls

-- each parcel that was put or taken took a step of its own
pub record AreCounted (w : NodeLinks) : Type 0 where
  pub clock : w.clock < 2 ^ 64 - 1
  pub sent : (q : ℕ) → slice_index w.sent q ≤ w.clock
  pub taken : (q : ℕ) → slice_index w.taken q ≤ w.clock

-- a step at an input, with the clock that follows its own and that of what came: its parcels have the next numbers
pub record IsStep (old new : NodeLinks) (came : ℕ) (y : NodeState) (x : Input) (out : Output) : Type 0 where
  pub done : IsDone new.manager out.effects (node_after y x)
  pub sender : out.from ≡ new.manager.me
  pub clock : new.clock ≡ max old.clock came + 1
  pub told : out.clock ≡ new.clock
  pub sent : (q : ℕ) → q < 64 → slice_index new.sent q ≡ slice_index old.sent q + length ((node_after y x).puts q)
  pub numbers : out.numbers ≡ new.sent
  pub reaches : HasReaches old.reaches y.calls → HasReaches new.reaches (node_after y x).state.calls

-- the same node, but for spare room
pub record IsSameNode (new old : NodeLinks) : Type 0 where
  pub manager : IsSameManager new.manager old.manager
  pub clock : new.clock ≡ old.clock
  pub sent : new.sent ≡ old.sent
  pub taken : new.taken ≡ old.taken
  pub reaches : new.reaches ≡ old.reaches

-- the next parcel of a process is taken, and an earlier one changes nothing
abbrev pub TakesNext : NodeLinks → NodeLinks → ℕ → ℕ → Taken → Type 0
TakesNext old new from number Step = (number ≡ slice_index old.taken from + 1) × ((q : ℕ) → slice_index new.taken q ≡ at_one from number (slice_index old.taken) q)
TakesNext old new from number Again = (number ≤ slice_index old.taken from) × (new ≡ old)

-- a parcel that makes a step makes this one
abbrev pub IsUntaken : Taken → Type 0 → Type 0
IsUntaken Step P = P
IsUntaken Again P = Unit {0}

-- where a message comes, tables answer for the calls after it
abbrev pub IsSpoken : NodeState → ℕ → Bool → NodeParcel → Type 0
IsSpoken y q able (App label body) = Speaks ((taking y q able (App label body)).state.calls)
IsSpoken y q able (Ask k kind label) = Unit {0}
IsSpoken y q able (Reply k w) = Unit {0}
IsSpoken y q able (Decide k c) = Unit {0}

-- what comes is given to the manager: it makes a step, or the manager or the clock refuses it
abbrev pub IsGiven : {X : Type 0} → Result X NodeFault → Type 0
IsGiven (Ok made) = Unit {0}
IsGiven (Err (fault.Manager f)) = Unit {0}
IsGiven (Err fault.ClockSpent) = Unit {0}
IsGiven (Err fault.Astray) = ⊥
IsGiven (Err (fault.Gap n)) = ⊥
IsGiven (Err fault.Leap) = ⊥
IsGiven (Err fault.Stale) = ⊥

-- a parcel is the next one, and given to the manager; or it came before; or it is refused so
abbrev pub IsMetAs : Result Bool NodeFault → Result Taken NodeFault → Type 0
IsMetAs (Ok true) result = IsGiven result × (result ≡ Ok Again → ⊥)
IsMetAs (Ok false) result = result ≡ Ok Again
IsMetAs (Err f) result = result ≡ Err f

-- a message that is held is refused where it is stale, and else given to the manager
abbrev pub IsHeldMetAs : {X : Type 0} → Bool → Result X NodeFault → Type 0
IsHeldMetAs true result = result ≡ Err fault.Stale
IsHeldMetAs false result = IsGiven result

-- a call that is given to the manager is refused exactly so, but for the clock and memory
abbrev pub IsNodeFaultAs : Option ManagerFault → NodeFault → Type 0
IsNodeFaultAs o (fault.Manager f) = o ≡ but_memory f
IsNodeFaultAs o fault.ClockSpent = Unit {0}
IsNodeFaultAs o fault.Astray = ⊥
IsNodeFaultAs o (fault.Gap n) = ⊥
IsNodeFaultAs o fault.Leap = ⊥
IsNodeFaultAs o fault.Stale = ⊥

abbrev pub IsNodeRefusedAs : {X : Type 0} → Option ManagerFault → Result X NodeFault → Type 0
IsNodeRefusedAs o (Ok made) = o ≡ None
IsNodeRefusedAs o (Err f) = IsNodeFaultAs o f

abbrev pub IsParcelRefusedAs : Option ManagerFault → Result Taken NodeFault → Type 0
IsParcelRefusedAs o (Ok Step) = o ≡ None
IsParcelRefusedAs o (Ok Again) = Unit {0}
IsParcelRefusedAs o (Err (fault.Manager f)) = o ≡ but_memory f
IsParcelRefusedAs o (Err fault.ClockSpent) = Unit {0}
IsParcelRefusedAs o (Err fault.Astray) = Unit {0}
IsParcelRefusedAs o (Err (fault.Gap n)) = Unit {0}
IsParcelRefusedAs o (Err fault.Leap) = Unit {0}
IsParcelRefusedAs o (Err fault.Stale) = Unit {0}
