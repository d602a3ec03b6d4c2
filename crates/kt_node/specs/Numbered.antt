-- Nets whose parcels have numbers, and may be lost, come again or overtake one another.
use Rattle.std.specs.Prelude.{ℕ, ◌+◌, ◌-◌, ◌==◌, ◌&&◌, not, if◌then◌else◌, Bool, Option, Some, None, List, [], ◌∷◌, ◌++◌, length, map, take, drop}
use Rattle.kt_meaning.specs.Past.{at_one}
use Rattle.kt_protocol.specs.States.{ProtocolStep}
use Rattle.kt_machine.specs.Acts.{stepper}
use Rattle.kt_spacetime.specs.declared.named_rows.ClockedRow.{ClockedRow}
use Rattle.kt_manager.specs.Nodes.{NodeState, is_in_rollback}
use Rattle.kt_node.specs.Inputs.{Input}
use Rattle.kt_node.specs.NodeSteps.{node_after}
use Rattle.kt_node.specs.Nets.{has_some, opening_from}
use Rattle.kt_node.specs.Clocks.{Envelope, ClockedNet, envelope, clocked_row, clock_after, front_input, input_at, source_of}

-- nodes with their clocks; what each process ever put for another one, in order: the number of a parcel is its place, counted
-- from 1; how many of these the other one took; the rows of all
pub record NumberedNet : Type 0 where
  pub nodes : ℕ → NodeState
  pub clock : ℕ → ℕ
  pub put : ℕ → ℕ → List Envelope
  pub taken : ℕ → ℕ → ℕ
  pub rows : List ClockedRow

-- a process is told something or takes what it holds; or a copy of the parcel with this number comes to it from another one:
-- any one that was put, at any time, often or never
pub data NumberedStep : Type 0 where
  Own : ProtocolStep → NumberedStep
  Comes : ℕ → ℕ → Bool → ℕ → NumberedStep

-- the parcel with this number, where it was put
abbrev pub with_number : ℕ → List Envelope → List Envelope
with_number number put = take 1 (drop (number - 1) put)

-- node p does what it does at an input, for which it took these parcels of q
abbrev pub numbered_doing : NumberedNet → ℕ → ℕ → List Envelope → Input → NumberedNet
numbered_doing w p q es i = let clock = clock_after (w.clock p) i es in let d = node_after (w.nodes p) i in record {
  nodes = at_one p d.state w.nodes;
  clock = at_one p clock w.clock;
  put = λ u v. if u == p then w.put u v ++ map (envelope clock) (d.puts v) else w.put u v;
  taken = λ u v. if u == q && v == p then w.taken q p + length es else w.taken u v;
  rows = w.rows ++ map (clocked_row p clock) d.rows;
}

abbrev pub numbered_input : NumberedNet → ℕ → ℕ → List Envelope → Option Input → NumberedNet
numbered_input w p q es None = w
numbered_input w p q es (Some i) = numbered_doing w p q es i

-- p takes of q exactly the next number, and that only once nothing is left that it holds of q; all else that comes changes
-- nothing
abbrev pub takes_number : NumberedNet → ℕ → ℕ → ℕ → Bool
takes_number w p q number = (number == w.taken q p + 1) && not (not (is_in_rollback (w.nodes p)) && has_some ((w.nodes p).held q))

abbrev pub numbered_comes : NumberedNet → ℕ → ℕ → Bool → List Envelope → NumberedNet
numbered_comes w p q able es = numbered_input w p q es (front_input q able es)

abbrev pub numbered_step : NumberedNet → NumberedStep → NumberedNet
numbered_step w (Own x) = numbered_input w (stepper x) (source_of x) [] (input_at (w.nodes (stepper x)) x [])
numbered_step w (Comes p q able number) = if takes_number w p q number then numbered_comes w p q able (with_number number (w.put q p)) else w

abbrev pub numbered_run : NumberedNet → List NumberedStep → NumberedNet
numbered_run w [] = w
numbered_run w (x ∷ xs) = numbered_run (numbered_step w x) xs

-- n nodes, of which each counts its messages on from a label of its own
abbrev pub opening_numbered_from : ℕ → (ℕ → ℕ) → NumberedNet
opening_numbered_from n first = record { nodes = (opening_from n first).nodes; clock = λ p. 0; put = λ p q. []; taken = λ p q. 0; rows = [] }

-- and all from this one
abbrev pub opening_numbered : ℕ → ℕ → NumberedNet
opening_numbered n first = opening_numbered_from n (λ p. first)

-- the same without numbers: on its way is what was put and not taken yet
abbrev pub unnumbered : NumberedNet → ClockedNet
unnumbered w = record { nodes = w.nodes; clock = w.clock; channel = λ p q. drop (w.taken p q) (w.put p q); rows = w.rows }
