use Rattle.kt_promises.proofs.ActsOfSteps.{rows_of_one, log_grows, acts_more, others_idle, few_acts, abort_tells}
use Rattle.kt_promises.proofs.laws.acts_of_runs.Goals as goal

pub returns-clause-grows : goal.returns-clause-grows
returns-clause-grows c = log_grows

pub returns-clause-more : goal.returns-clause-more
returns-clause-more c = acts_more

pub returns-clause-others : goal.returns-clause-others
returns-clause-others c = others_idle

pub returns-clause-two : goal.returns-clause-two
returns-clause-two c = few_acts

pub returns-clause-aborts : goal.returns-clause-aborts
returns-clause-aborts c = abort_tells

pub returns-clause-rows : goal.returns-clause-rows
returns-clause-rows c = rows_of_one
