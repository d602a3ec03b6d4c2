use Rattle.kt_promises.proofs.RunSteps.{few_steps_seen}
use Rattle.kt_promises.proofs.RunsEnd.{work_falls_seen, defaults_run_seen, defaults_rest_seen, start_rests_seen}
use Rattle.kt_promises.proofs.laws.runs_end.Goals as goal

pub returns-clause-steps : goal.returns-clause-steps
returns-clause-steps c = few_steps_seen

pub returns-clause-falls : goal.returns-clause-falls
returns-clause-falls c = work_falls_seen

pub returns-clause-defaults : goal.returns-clause-defaults
returns-clause-defaults c = defaults_run_seen

pub returns-clause-after : goal.returns-clause-after
returns-clause-after c = defaults_rest_seen

pub returns-clause-rest : goal.returns-clause-rest
returns-clause-rest c = start_rests_seen
