-- What a step of a node needs of its object.
use Rattle.std.specs.Prelude.{ℕ, ◌&&◌, not, Bool, false, Some, is_none}
use Rattle.kt_meaning.specs.Past.{is_rollback_kind}
use Rattle.kt_machine.specs.CallTests.{must_take}
use Rattle.kt_manager.specs.declared.parcels.NodeParcel.{NodeParcel}
use Rattle.kt_manager.specs.declared.parcels.NodeParcel.TheVariants.{App, Ask, Reply, Decide}
use Rattle.kt_manager.specs.Nodes.{NodeState}
use Rattle.kt_node.specs.Inputs.{Input, Send, Begin, Fail, Held, Comes}

-- the same input, where the object can be saved or not
abbrev pub where_able : Bool → Input → Input
where_able able (Send q body) = Send q body
where_able able (Begin roll was) = Begin roll able
where_able able Fail = Fail
where_able able (Held q) = Held q
where_able able (Comes q was x) = Comes q able x

-- whether a parcel of q asks it to take a checkpoint that it has to take
abbrev pub asks_to_save : NodeState → ℕ → NodeParcel → Bool
asks_to_save y q (Ask k kind label) = not (is_rollback_kind (Some kind)) && must_take y.calls q label
asks_to_save y q (App label body) = false
asks_to_save y q (Reply k w) = false
asks_to_save y q (Decide k c) = false

-- whether an input makes it take a checkpoint, if its object can be saved: in no instance, and with its object up
abbrev pub would_save : NodeState → Input → Bool
would_save y (Begin roll able) = (is_none y.inst && y.up) && not roll
would_save y (Comes q able x) = (is_none y.inst && y.up) && asks_to_save y q x
would_save y (Send q body) = false
would_save y Fail = false
would_save y (Held q) = false
