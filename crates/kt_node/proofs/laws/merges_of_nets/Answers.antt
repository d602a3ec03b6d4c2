use Rattle.kt_node.proofs.NetMerges.{merged, merged_from}
use Rattle.kt_node.proofs.laws.merges_of_nets.Goals as goal

pub returns-clause-from_none : goal.returns-clause-from_none
returns-clause-from_none c = λ n steps parts rows m of. merged c.logs_of_nets.ensures.promised c.logs_of_nets.ensures.certified n steps rows m.sorted.sorted of

pub returns-clause-from_each : goal.returns-clause-from_each
returns-clause-from_each c = λ n first steps parts rows m of. merged_from c.logs_of_nets.ensures.promised c.logs_of_nets.ensures.certified n first steps rows m.sorted.sorted of
