use Rattle.kt_machine.proofs.LogFacts.{labels_of_rows, labels_stay, used_is}
use Rattle.kt_machine.proofs.laws.labels_of_logs.Goals as goal

pub returns-clause-label : goal.returns-clause-label
returns-clause-label c = λ first log m p q b e. (labels_of_rows first log m p q b e).1

pub returns-clause-positive : goal.returns-clause-positive
returns-clause-positive c = λ first log m p q b e. (labels_of_rows first log m p q b e).0

pub returns-clause-body : goal.returns-clause-body
returns-clause-body c = λ first log m p q b e. (labels_of_rows first log m p q b e).2

pub returns-clause-used : goal.returns-clause-used
returns-clause-used c = used_is

pub returns-clause-stays : goal.returns-clause-stays
returns-clause-stays c = labels_stay
