use Rattle.kt_system.proofs.Turns.{state_at, tables_at}
use Rattle.kt_system.proofs.system.System.process.Goals as goal

pub returns-clause-process : goal.returns-clause-process
returns-clause-process c = state_at _ _ c.args.p c.index.result c.index-2.result.now c.self.view_is c.self.invariant c.requires c.index.ensures.value c.index-2.ensures

pub returns-clause-tables : goal.returns-clause-tables
returns-clause-tables c = tables_at _ _ c.args.p c.self.view_is c.self.invariant c.requires
