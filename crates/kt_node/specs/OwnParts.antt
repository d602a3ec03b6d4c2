-- Which part in an instance is a manager's own.
use Rattle.kt_manager.specs.OwnParts.{HasOwnPart as HasOwnCorePart}
use Rattle.kt_node.specs.Managers.{ManagerState, core_of}

-- that of the manager that it guards
abbrev pub HasOwnPart : ManagerState → Type 0
HasOwnPart w = HasOwnCorePart (core_of w)
