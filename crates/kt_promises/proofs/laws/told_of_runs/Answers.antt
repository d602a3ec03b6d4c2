use Rattle.kt_promises.proofs.WholeLogs.{log_along}
use Rattle.kt_promises.proofs.ToldAlong.{all_acts_told, all_rows_told, told_more}
use Rattle.kt_promises.proofs.laws.told_of_runs.Goals as goal

pub returns-clause-acts : goal.returns-clause-acts
returns-clause-acts c = λ plan first p moves w i e. all_acts_told plan first i p moves w e

pub returns-clause-rows : goal.returns-clause-rows
returns-clause-rows c = λ plan first p moves w i e. all_rows_told plan first i p moves w e

pub returns-clause-more : goal.returns-clause-more
returns-clause-more c = told_more

pub returns-clause-log : goal.returns-clause-log
returns-clause-log c = log_along
