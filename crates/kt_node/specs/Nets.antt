-- Nodes that are linked by ordered channels, and runs of steps.
use Rattle.std.specs.Prelude.{ℕ, ◌==◌, ◌&&◌, not, if◌then◌else◌, Bool, true, false, None, List, [], ◌∷◌, ◌++◌, map}
use Rattle.kt_meaning.specs.Past.{at_one}
use Rattle.kt_protocol.specs.States.{ProtocolStep, Send, Begin, Fail, Take}
use Rattle.kt_machine.specs.Seen.{no_part}
use Rattle.kt_machine.specs.Values.{Act}
use Rattle.kt_spacetime.specs.declared.named_rows.NamedRow.{NamedRow}
use Rattle.kt_meaning.specs.Names.{row_of}
use Rattle.kt_manager.specs.declared.parcels.NodeParcel.{NodeParcel}
use Rattle.kt_manager.specs.Nodes.{NodeState, Doing, is_in_rollback}
use Rattle.kt_node.specs.Inputs as input
use Rattle.kt_node.specs.NodeSteps.{node_after}

pub record Net : Type 0 where
  pub nodes : ℕ → NodeState
  -- what is on its way from a process to another one, in the order in which it was put
  pub channel : ℕ → ℕ → List NodeParcel
  -- the rows of all, in the order in which they were told
  pub rows : List NamedRow

-- node p has done this
abbrev pub with_doing : Net → ℕ → Doing → Net
with_doing w p d = record {
  nodes = at_one p d.state w.nodes;
  channel = λ u v. if u == p then w.channel u v ++ d.puts v else w.channel u v;
  rows = w.rows ++ map (row_of p) d.rows;
}

-- with this rest of the channel from q to p
abbrev pub with_rest : Net → ℕ → ℕ → List NodeParcel → Net
with_rest w q p rest = record w { channel = λ u v. if u == q && v == p then rest else w.channel u v }

abbrev pub has_some : List NodeParcel → Bool
has_some [] = false
has_some (x ∷ xs) = true

-- p takes what is in front in the channel from q
abbrev pub net_front : Net → ℕ → ℕ → Bool → List NodeParcel → Net
net_front w p q able [] = w
net_front w p q able (x ∷ rest) = with_doing (with_rest w q p rest) p (node_after (w.nodes p) (input.Comes q able x))

-- a step of one node: what it holds of q, while it is in no rollback, comes before the channel
abbrev pub net_step : Net → ProtocolStep → Net
net_step w (Send p q body) = with_doing w p (node_after (w.nodes p) (input.Send q body))
net_step w (Begin p roll able) = with_doing w p (node_after (w.nodes p) (input.Begin roll able))
net_step w (Fail p) = with_doing w p (node_after (w.nodes p) input.Fail)
net_step w (Take p q able) =
    if not (is_in_rollback (w.nodes p)) && has_some ((w.nodes p).held q) then with_doing w p (node_after (w.nodes p) (input.Held q))
    else net_front w p q able (w.channel q p)

-- the acts of the object of the node that steps, in order
abbrev pub front_acts : NodeState → ℕ → Bool → List NodeParcel → List Act
front_acts y q able [] = []
front_acts y q able (x ∷ rest) = (node_after y (input.Comes q able x)).acts

abbrev pub net_acts : Net → ProtocolStep → List Act
net_acts w (Send p q body) = (node_after (w.nodes p) (input.Send q body)).acts
net_acts w (Begin p roll able) = (node_after (w.nodes p) (input.Begin roll able)).acts
net_acts w (Fail p) = (node_after (w.nodes p) input.Fail).acts
net_acts w (Take p q able) =
    if not (is_in_rollback (w.nodes p)) && has_some ((w.nodes p).held q) then (node_after (w.nodes p) (input.Held q)).acts
    else front_acts (w.nodes p) q able (w.channel q p)

-- some steps, one after another
abbrev pub net_run : Net → List ProtocolStep → Net
net_run w [] = w
net_run w (x ∷ xs) = net_run (net_step w x) xs

-- n nodes, of which each counts its messages on from a label of its own
abbrev pub opening_from : ℕ → (ℕ → ℕ) → Net
opening_from n first = record {
  nodes = λ p. record {
    processes = n;
    me = p;
    calls = [];
    used = first p;
    begun = 0;
    inst = None;
    part = no_part;
    up = true;
    held = λ q. [];
    kept = λ q. [];
    asks = λ q. None;
    answered = λ q. false;
  };
  channel = λ p q. [];
  rows = [];
}

-- and all from this one
abbrev pub opening_net : ℕ → ℕ → Net
opening_net n first = opening_from n (λ p. first)
