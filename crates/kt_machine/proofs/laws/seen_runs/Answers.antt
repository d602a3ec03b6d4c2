use Rattle.kt_machine.proofs.Runs.{seen_after_run, seen_next, seen_step}
use Rattle.kt_machine.proofs.laws.seen_runs.Goals as goal

pub returns-clause-whole : goal.returns-clause-whole
returns-clause-whole c = seen_after_run

pub returns-clause-next : goal.returns-clause-next
returns-clause-next c = seen_next

pub returns-clause-step : goal.returns-clause-step
returns-clause-step c = seen_step
