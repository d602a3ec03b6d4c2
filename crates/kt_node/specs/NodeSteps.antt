-- What a node does at each input.
use Rattle.std.specs.Prelude.{ℕ, ◌+◌, ◌==◌, ◌&&◌, ◌||◌, not, nat_lt, if◌then◌else◌, Bool, true, Some, is_none}
use Rattle.kt_base.specs.declared.words.Verb.TheVariants as verb
use Rattle.kt_meaning.specs.Names.{name_of}
use Rattle.kt_meaning.specs.Past.{at_one, is_rollback_kind}
use Rattle.kt_spacetime.specs.declared.names.InstName.{InstName}
use Rattle.kt_spacetime.specs.declared.named_rows.NamedCause.TheVariants.{Down}
use Rattle.kt_manager.specs.declared.parcels.NodeParcel.{NodeParcel}
use Rattle.kt_manager.specs.declared.parcels.NodeParcel.TheVariants.{App, Ask, Reply, Decide}
use Rattle.kt_manager.specs.Nodes.{NodeState, Doing, nothing, is_in_rollback}
use Rattle.kt_manager.specs.NodeMessages.{sending, arriving, holding, taking_held, failing, refusing}
use Rattle.kt_manager.specs.NodeClosing.{closing, settling}
use Rattle.kt_manager.specs.NodeSteps.{is_in, told_to_begin, asked, counting}
use Rattle.kt_node.specs.Inputs.{Input, Send, Begin, Fail, Held, Comes}

-- the name of the next instance that it begins
abbrev pub next_name : NodeState → InstName
next_name y = name_of y.me (y.begun + 1)

-- q's last ask is the one to join k
abbrev pub asking : NodeState → ℕ → InstName → NodeState
asking y q k = record y { asks = at_one q (Some k) y.asks }

-- whether an instance may have begun: at a process that there is and, where this is the node's own, it is in the instance
-- while others are asked
abbrev pub is_begun : NodeState → InstName → Bool
is_begun y k = nat_lt k.initiator y.processes && (not (k.initiator == y.me) || is_in y.inst k)

-- it is in k, which awaits replies still, and of q one: it asked q, which has not replied
abbrev pub awaits : NodeState → ℕ → InstName → Bool
awaits y q k = (is_in y.inst k && not (y.part.awaited == 0)) && (y.part.asked q && not (y.answered q))

-- it is in k, which another process began, awaits nobody, and this is what q asked it last to join
abbrev pub heeds : NodeState → ℕ → InstName → Bool
heeds y q k = (is_in y.inst k && is_in (y.asks q) k) && (not (k.initiator == y.me) && y.part.awaited == 0)

-- a parcel of q: a reply counts only where it is awaited of q, and a decision only where q asked to join its instance, which
-- another process began and where all have replied
abbrev pub taking : NodeState → ℕ → Bool → NodeParcel → Doing
taking y q able (App label body) = if is_in_rollback y then holding y q (App label body) else arriving y q label body
taking y q able (Ask k kind label) = asked y.inst (asking y q k) q able k (is_rollback_kind (Some kind)) label
taking y q able (Reply k w) = if awaits y q k then settling k (nothing (counting y q w)) else nothing y
taking y q able (Decide k c) = if heeds y q k then closing k c (nothing y) else nothing y

-- whether an input is a step: a send waits while its node is in an instance
abbrev pub is_step : NodeState → Input → Bool
is_step y (Send q body) = (nat_lt y.me y.processes && nat_lt q y.processes) && (is_none y.inst && not (q == y.me))
is_step y _ = true

abbrev pub node_after : NodeState → Input → Doing
node_after y (Send q body) = if is_step y (Send q body) then (if y.up then sending y q body else refusing y verb.Send Down) else nothing y
node_after y (Begin roll able) = told_to_begin (next_name y) y.inst y roll able
node_after y Fail = if y.up then failing y else refusing y verb.Fail Down
node_after y (Held q) = if is_in_rollback y then nothing y else taking_held y q (y.held q)
node_after y (Comes q able x) = taking y q able x
