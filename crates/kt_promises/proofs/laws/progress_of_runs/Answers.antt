use Rattle.kt_promises.proofs.RunSteps.{start_reached_seen, next_reached_seen}
use Rattle.kt_promises.proofs.laws.progress_of_runs.Goals as goal

pub returns-clause-start : goal.returns-clause-start
returns-clause-start c = start_reached_seen

pub returns-clause-next : goal.returns-clause-next
returns-clause-next c = next_reached_seen
