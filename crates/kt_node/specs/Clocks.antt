-- Nets with clocks: when each node steps, and what carries it.
use Rattle.std.specs.Prelude.{ℕ, ◌+◌, ◌<◌, ◌≤◌, ◌≡◌, ◌⊎◌, ◌==◌, ◌&&◌, not, max, if◌then◌else◌, Bool, Option, Some, None, List, [], ◌∷◌, ◌++◌, map, drop}
use Rattle.kt_meaning.specs.Past.{at_one}
use Rattle.kt_protocol.specs.States.{ProtocolStep, Send, Begin, Fail, Take}
use Rattle.kt_machine.specs.Acts.{stepper}
use Rattle.kt_machine.specs.Values.{Act}
use Rattle.kt_spacetime.specs.declared.named_rows.NamedEvent.{NamedEvent}
use Rattle.kt_meaning.specs.Names.{row_of}
use Rattle.kt_manager.specs.declared.parcels.NodeParcel.{NodeParcel}
use Rattle.kt_spacetime.specs.declared.named_rows.ClockedRow.{ClockedRow}
use Rattle.kt_manager.specs.Nodes.{NodeState, is_in_rollback}
use Rattle.kt_node.specs.Inputs.{Input}
use Rattle.kt_node.specs.Inputs as input
use Rattle.kt_node.specs.NodeSteps.{is_step, node_after}
use Rattle.kt_node.specs.Nets.{has_some, opening_from}

-- a parcel on its way, with the clock of the step that put it
pub record Envelope : Type 0 where
  pub clock : ℕ
  pub parcel : NodeParcel

-- a net, and each node's clock
pub record ClockedNet : Type 0 where
  pub nodes : ℕ → NodeState
  pub clock : ℕ → ℕ
  pub channel : ℕ → ℕ → List Envelope
  pub rows : List ClockedRow

abbrev pub envelope : ℕ → NodeParcel → Envelope
envelope clock x = record { clock = clock; parcel = x }

abbrev pub clocked_row : ℕ → ℕ → NamedEvent → ClockedRow
clocked_row p clock event = record { clock = clock; row = row_of p event }

-- whose channel to the node that steps is looked at
abbrev pub source_of : ProtocolStep → ℕ
source_of (Send p q body) = p
source_of (Begin p roll able) = p
source_of (Fail p) = p
source_of (Take p q able) = q

-- what comes to a node at a step, if anything, where this is on its way to it
abbrev pub front_input : ℕ → Bool → List Envelope → Option Input
front_input q able [] = None
front_input q able (e ∷ es) = Some (input.Comes q able e.parcel)

abbrev pub input_at : NodeState → ProtocolStep → List Envelope → Option Input
input_at y (Send p q body) es = if is_step y (input.Send q body) then Some (input.Send q body) else None
input_at y (Begin p roll able) es = Some (input.Begin roll able)
input_at y (Fail p) es = Some input.Fail
input_at y (Take p q able) es = if not (is_in_rollback y) && has_some (y.held q) then Some (input.Held q) else front_input q able es

-- the clock of a step is one more than the node's own and, where it takes a parcel, than the parcel's
abbrev pub greatest : ℕ → List Envelope → ℕ
greatest clock [] = clock
greatest clock (e ∷ es) = max clock e.clock

abbrev pub clock_after : ℕ → Input → List Envelope → ℕ
clock_after clock (input.Send q body) es = clock + 1
clock_after clock (input.Begin roll able) es = clock + 1
clock_after clock input.Fail es = clock + 1
clock_after clock (input.Held q) es = clock + 1
clock_after clock (input.Comes q able x) es = greatest clock es + 1

-- what is on its way then
abbrev pub left_after : Input → List Envelope → List Envelope
left_after (input.Send q body) es = es
left_after (input.Begin roll able) es = es
left_after input.Fail es = es
left_after (input.Held q) es = es
left_after (input.Comes q able x) es = drop 1 es

-- node p does what it does at an input, which q's channel to it may have had in front
abbrev pub clocked_doing : ClockedNet → ℕ → ℕ → Input → ClockedNet
clocked_doing w p q i = let clock = clock_after (w.clock p) i (w.channel q p) in let d = node_after (w.nodes p) i in record {
  nodes = at_one p d.state w.nodes;
  clock = at_one p clock w.clock;
  channel = λ u v. (if u == q && v == p then left_after i (w.channel q p) else w.channel u v) ++ (if u == p then map (envelope clock) (d.puts v) else []);
  rows = w.rows ++ map (clocked_row p clock) d.rows;
}

abbrev pub at_input : ClockedNet → ℕ → ℕ → Option Input → ClockedNet
at_input w p q None = w
at_input w p q (Some i) = clocked_doing w p q i

-- a step of one node, and the acts of its object in order
abbrev pub clocked_input : ClockedNet → ProtocolStep → Option Input
clocked_input w x = input_at (w.nodes (stepper x)) x (w.channel (source_of x) (stepper x))

abbrev pub clocked_step : ClockedNet → ProtocolStep → ClockedNet
clocked_step w x = at_input w (stepper x) (source_of x) (clocked_input w x)

abbrev pub acts_at : NodeState → Option Input → List Act
acts_at y None = []
acts_at y (Some i) = (node_after y i).acts

abbrev pub clocked_acts : ClockedNet → ProtocolStep → List Act
clocked_acts w x = acts_at (w.nodes (stepper x)) (clocked_input w x)

abbrev pub clocked_run : ClockedNet → List ProtocolStep → ClockedNet
clocked_run w [] = w
clocked_run w (x ∷ xs) = clocked_run (clocked_step w x) xs

-- n nodes, all of whose clocks are 0, of which each counts its messages on from a label of its own
abbrev pub opening_clocked_from : ℕ → (ℕ → ℕ) → ClockedNet
opening_clocked_from n first = record { nodes = (opening_from n first).nodes; clock = λ p. 0; channel = λ p q. []; rows = [] }

-- and all from this one
abbrev pub opening_clocked : ℕ → ℕ → ClockedNet
opening_clocked n first = opening_clocked_from n (λ p. first)

-- sorted by clock, then by process, where none comes before this clock and this process
abbrev pub AreByClock : ℕ → ℕ → List ClockedRow → Type 0
AreByClock clock p [] = Unit {0}
AreByClock clock p (r ∷ rows) = ((clock < r.clock) ⊎ ((clock ≡ r.clock) × (p ≤ r.row.p))) × AreByClock r.clock r.row.p rows
