-- Nets whose processes are killed and come back with what their disks have.
--
-- One event stands for several that a host tells apart:
-- - A protocol step and its write are one. Until the write ends nobody hears of the step, nor of what follows it. So a process
--   that goes on meanwhile is one that does these things later, and a kill before the end of the write comes before the step.
-- - Nobody reads a disk. So a write that ends later, or a kill that leaves a front of what was to be written, is a `Writes` at
--   the moment at which that front was all.
-- - Who is away does nothing, so what it has is its disk's from the kill on. A start is one event too: after it was asked a
--   process takes nothing of the older life, so what it took does not grow until the other one is back.
-- - A parcel is sent as it is put: one that goes out later comes later, and one that never goes out never comes.
-- - Lives are known to all at once. Nobody takes what is older than it was told, and who comes back sends nothing else until
--   all were told.
use Rattle.std.specs.Prelude.{ℕ, ℤ, ◌+◌, ◌==◌, ◌&&◌, not, nat_lt, if◌then◌else◌, Bool, true, false, Option, Some, None, List, [], ◌∷◌, ◌++◌, length, map, take, drop}
use Rattle.kt_meaning.specs.Past.{at_one}
use Rattle.kt_protocol.specs.States.{ProtocolStep}
use Rattle.kt_protocol.specs.States as protocol
use Rattle.kt_machine.specs.Acts.{stepper}
use Rattle.kt_spacetime.specs.declared.named_rows.ClockedRow.{ClockedRow}
use Rattle.kt_manager.specs.Nodes.{NodeState, is_in_rollback}
use Rattle.kt_node.specs.Inputs.{Input}
use Rattle.kt_node.specs.Inputs as input
use Rattle.kt_node.specs.NodeSteps.{node_after}
use Rattle.kt_node.specs.Nets.{opening_net, has_some}
use Rattle.kt_node.specs.Clocks.{Envelope, envelope, clocked_row, front_input, input_at, clock_after}
use Rattle.kt_kills.specs.Writing.{is_protocol}

-- What a process has, in memory or on its disk. A parcel's number is its place in `put`, and in `took`, counted from 1. Nothing is
-- forgotten here: what a host may forget follows from the laws.
pub record Holdings : Type 0 where
  -- its node, the clock of its last step, and its rows
  pub node : NodeState
  pub clock : ℕ
  pub rows : List ClockedRow
  -- all that it ever put for another process, and all that it ever took of one, with clocks
  pub put : ℕ → List Envelope
  pub took : ℕ → List Envelope

pub record KilledNet : Type 0 where
  -- what a process has in memory, and on its disk: what it has again once it is killed
  pub memory : ℕ → Holdings
  pub disk : ℕ → Holdings
  -- whether it was killed and is not back; how often it came back, as all others were told then
  pub away : ℕ → Bool
  pub life : ℕ → ℕ
  -- all that a process sent in a life of its to another process, by number: each of it may come, again, late or never
  pub sent : ℕ → ℕ → ℕ → List Envelope

-- What happens. A process makes a step at which no parcel comes: a command, a failure, the first message that it holds of
-- another one. `Brought p q able life number`: p is brought the parcel of q with this number, sent in this life of q; the Boolean
-- says whether p's object can be saved. A process writes all that it has. It is killed. It comes back, and first sends these
-- again: to whom, and the body.
pub data KillEvent : Type 0 where
  Does : ProtocolStep → KillEvent
  Brought : ℕ → ℕ → Bool → ℕ → ℕ → KillEvent
  Writes : ℕ → KillEvent
  Killed : ℕ → KillEvent
  Back : ℕ → List (ℕ × ℤ) → KillEvent

-- the parcel that came of q, if one did
abbrev pub came_of : Input → ℕ → List Envelope → List Envelope
came_of (input.Comes q able x) u es = if u == q then take 1 es else []
came_of _ u es = []

-- what p has after an input, for which this came
abbrev pub having_done : ℕ → Holdings → List Envelope → Input → Holdings
having_done p h es i = let clock = clock_after h.clock i es in let d = node_after h.node i in record {
  node = d.state;
  clock = clock;
  rows = h.rows ++ map (clocked_row p clock) d.rows;
  put = λ v. h.put v ++ map (envelope clock) (d.puts v);
  took = λ u. h.took u ++ came_of i u es;
}

-- p has this in memory, and what it has put is sent
abbrev pub having : KilledNet → ℕ → Holdings → KilledNet
having w p h = record w {
  memory = at_one p h w.memory;
  sent = λ u life v. if u == p && life == w.life p then h.put v else w.sent u life v;
}

abbrev pub written : KilledNet → ℕ → KilledNet
written w p = record w { disk = at_one p (w.memory p) w.disk }

-- p makes a step, if it is not away: a step of an instance is written before anything of it is sent
abbrev pub stepping : KilledNet → ℕ → List Envelope → Option Input → KilledNet
stepping w p es None = w
stepping w p es (Some i) =
    if w.away p then w
    else if is_protocol (node_after (w.memory p).node i) then written (having w p (having_done p (w.memory p) es i)) p
    else having w p (having_done p (w.memory p) es i)

-- what p is brought of q, if it takes it: q is one of the processes, away or not, the life is its last one, and the number is the
-- next; and nothing that p holds of q comes first
abbrev pub brought : KilledNet → ℕ → ℕ → ℕ → ℕ → List Envelope
brought w p q life number = let h = w.memory p in
    if not (is_in_rollback h.node) && has_some (h.node.held q) then []
    else if nat_lt q h.node.processes && (life == w.life q && number == length (h.took q) + 1) then take 1 (drop (length (h.took q)) (w.sent q life p))
    else []

-- p sends these by plain sends, one after another; one that it may not make now, as in an instance, is left out
abbrev pub sending_one : ℕ → Holdings → Option Input → Holdings
sending_one p h None = h
sending_one p h (Some i) = having_done p h [] i

abbrev pub sending_again : ℕ → Holdings → List (ℕ × ℤ) → Holdings
sending_again p h [] = h
sending_again p h (x ∷ xs) = sending_again p (sending_one p h (input_at h.node (protocol.Send p x.0 x.1) [])) xs

-- Who comes back begins a life, and sends under it what its disk has put and what it sends again. These sends are not written by
-- that: who is killed again comes back from the same disk, in one more life.
abbrev pub coming_back : KilledNet → ℕ → List (ℕ × ℤ) → KilledNet
coming_back w p sends = having (record w { away = at_one p false w.away; life = at_one p (w.life p + 1) w.life }) p (sending_again p (w.memory p) sends)

abbrev pub happens : KilledNet → KillEvent → KilledNet
happens w (Does x) = stepping w (stepper x) [] (input_at (w.memory (stepper x)).node x [])
happens w (Brought p q able life number) = stepping w p (brought w p q life number) (front_input q able (brought w p q life number))
happens w (Writes p) = written w p
happens w (Killed p) = record w { memory = at_one p (w.disk p) w.memory; away = at_one p true w.away }
happens w (Back p sends) = if w.away p then coming_back w p sends else w

abbrev pub killed_run : KilledNet → List KillEvent → KilledNet
killed_run w [] = w
killed_run w (e ∷ es) = killed_run (happens w e) es

-- n processes that have done nothing, and have written that; the labels of all come after this one
abbrev pub opening_holdings : ℕ → ℕ → ℕ → Holdings
opening_holdings n first p = record { node = (opening_net n first).nodes p; clock = 0; rows = []; put = λ q. []; took = λ q. [] }

abbrev pub opening_killed : ℕ → ℕ → KilledNet
opening_killed n first = record {
  memory = opening_holdings n first;
  disk = opening_holdings n first;
  away = λ p. false;
  life = λ p. 0;
  sent = λ p life q. [];
}
