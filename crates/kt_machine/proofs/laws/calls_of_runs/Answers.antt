use Rattle.kt_machine.proofs.RunFacts.{speaks, speaks_next, table_labels, label_order}
use Rattle.kt_machine.proofs.GrowingLogs.{log_grows, label_kept}
use Rattle.kt_machine.proofs.laws.calls_of_runs.Goals as goal

pub returns-clause-speaks : goal.returns-clause-speaks
returns-clause-speaks c = speaks

pub returns-clause-speaks_next : goal.returns-clause-speaks_next
returns-clause-speaks_next c = speaks_next

pub returns-clause-table_labels : goal.returns-clause-table_labels
returns-clause-table_labels c = table_labels

pub returns-clause-order : goal.returns-clause-order
returns-clause-order c = label_order

pub returns-clause-grows : goal.returns-clause-grows
returns-clause-grows c = log_grows

pub returns-clause-same_label : goal.returns-clause-same_label
returns-clause-same_label c = label_kept
