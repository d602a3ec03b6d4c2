-- What an input needs of a node's object.
use Rattle.std.specs.Prelude.{◌&&◌, ◌-◌, ◌^◌, not, nat_lt, max, if◌then◌else◌, ℕ, Bool, true, Some, Result, Ok, Err, is_none}
use Rattle.kt_meaning.specs.Past.{is_rollback_kind}
use Rattle.kt_plan.specs.declared.steps.Look.{Look}
use Rattle.kt_plan.specs.declared.steps.Look.TheVariants.{Idle, NeedsSave, Plain}
use Rattle.kt_manager.specs.Nodes.{NodeState}
use Rattle.kt_node.specs.Inputs.{Input}
use Rattle.kt_node.specs.Inputs as input
use Rattle.kt_node.specs.NodeLooks.{would_save}
use Rattle.kt_node.specs.declared.inputs.Input.{Input as Coming}
use Rattle.kt_node.specs.declared.inputs.Input.TheVariants.{Send, Begin, Fail, Redeliver, Deliver}
use Rattle.kt_node.specs.declared.node.NodeFault.{NodeFault}
use Rattle.kt_node.specs.declared.node.NodeFault.TheVariants as fault
use Rattle.kt_node.specs.Links.{NodeLinks}
use Rattle.kt_node.specs.Meetings.{meeting_of, is_next_one, is_stale_held}
use Rattle.kt_node.specs.Faults.{fault_at}

-- what comes to a node, where its object can be saved or not
abbrev pub input_of : Bool → Coming → Input
input_of able (Send to body) = input.Send to body
input_of able (Begin kind) = input.Begin (is_rollback_kind (Some kind)) able
input_of able Fail = input.Fail
input_of able (Redeliver from) = input.Held from
input_of able (Deliver from envelope) = input.Comes from able envelope.parcel

-- a manager takes no step where it refuses; else it needs that its object is saved, or nothing
abbrev pub look_of : NodeState → Input → Look
look_of y x = if not (is_none (fault_at y x)) then Idle else if would_save y x then NeedsSave else Plain

-- how a node meets what comes: a command as it is, and a message that it holds where that rises
abbrev pub meeting_at : NodeLinks → Coming → Result Bool NodeFault
meeting_at w (Deliver from envelope) = meeting_of w from envelope
meeting_at w (Send to body) = Ok true
meeting_at w (Begin kind) = Ok true
meeting_at w Fail = Ok true
meeting_at w (Redeliver from) = if is_stale_held w from then Err fault.Stale else Ok true

-- whether it is given to its manager
abbrev pub is_met : NodeLinks → Coming → Bool
is_met w x = is_next_one (meeting_at w x)

-- whether a clock follows
abbrev pub clock_of : Coming → ℕ
clock_of (Deliver from envelope) = envelope.clock
clock_of (Send to body) = 0
clock_of (Begin kind) = 0
clock_of Fail = 0
clock_of (Redeliver from) = 0

abbrev pub has_clock : NodeLinks → Coming → Bool
has_clock w x = nat_lt (max w.clock (clock_of x)) (2 ^ 64 - 2)

-- a node is idle too where it does not meet what comes, or its clock is spent
abbrev pub node_look : NodeLinks → NodeState → Coming → Look
node_look w y x = if is_met w x && has_clock w x then look_of y (input_of true x) else Idle
