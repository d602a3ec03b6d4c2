-- What a manager is made of.
use Rattle.kt_manager.specs.Managers.{ManagerState}
use Rattle.kt_manager.specs.declared.manager.ManagerParts.{ManagerParts}

-- the manager of these parts
abbrev pub state_of : ManagerParts → ManagerState
state_of x = record { me = x.me; process = x.process; inst = x.inst; inbox = x.inbox }
