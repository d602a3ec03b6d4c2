use Rattle.kt_meaning.proofs.Passing.{passed_of_fit, just_of_passed, yes_of_fit, just_of_yes}
use Rattle.kt_meaning.proofs.certificates.certificates_of_fit_logs.Goals as goal

pub returns-clause-passed : goal.returns-clause-passed
returns-clause-passed c = λ log fit. (just_of_passed log, passed_of_fit log fit)

pub returns-clause-yes : goal.returns-clause-yes
returns-clause-yes c = λ log v fit answer. (just_of_yes log v answer, yes_of_fit log v fit answer)
