-- What a manager is made of.
use Rattle.kt_node.specs.Managers.{ManagerState}
use Rattle.kt_node.specs.declared.manager.ManagerParts.{ManagerParts}

-- the manager of these parts
abbrev pub state_of : ManagerParts → ManagerState
state_of x = record {
  size = x.process.tables.processes;
  me = x.me;
  process = x.process;
  inst = x.inst;
  begun = x.begun;
  inbox = x.inbox;
  asks = x.asks;
  answered = x.answered;
}
