use Rattle.kt_promises.proofs.GoingOn.{goes_first, goes_next, goes_run, goes_few, goes_below, goes_rest, given_rest}
use Rattle.kt_promises.proofs.laws.runs_that_go_on.Goals as goal

pub returns-clause-begins : goal.returns-clause-begins
returns-clause-begins c = goes_first

pub returns-clause-next : goal.returns-clause-next
returns-clause-next c = goes_next

pub returns-clause-run : goal.returns-clause-run
returns-clause-run c = goes_run

pub returns-clause-few : goal.returns-clause-few
returns-clause-few c = goes_few

pub returns-clause-limits : goal.returns-clause-limits
returns-clause-limits c = goes_below

pub returns-clause-rest : goal.returns-clause-rest
returns-clause-rest c = goes_rest

pub returns-clause-after : goal.returns-clause-after
returns-clause-after c = given_rest
