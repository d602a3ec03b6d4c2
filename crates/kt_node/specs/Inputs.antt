-- What comes to a node.
use Rattle.std.specs.Prelude.{ℕ, ℤ, Bool}
use Rattle.kt_manager.specs.declared.parcels.NodeParcel.{NodeParcel}

-- a command to send a message with this body to a process; to begin an instance, a rollback or not; a failure of its
-- object; the first message that it holds of a process; a parcel of a process. A Boolean after a command or a process says
-- whether its object can be saved.
pub data Input : Type 0 where
  Send : ℕ → ℤ → Input
  Begin : Bool → Bool → Input
  Fail : Input
  Held : ℕ → Input
  Comes : ℕ → Bool → NodeParcel → Input
