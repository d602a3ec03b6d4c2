use Rattle.kt_node.proofs.Forged.{unasked, twice, not_asker, own_decision, early_decision, no_process, own_name}
use Rattle.kt_node.proofs.laws.forged_parcels.Goals as goal

pub returns-clause-unasked : goal.returns-clause-unasked
returns-clause-unasked c = unasked

pub returns-clause-twice : goal.returns-clause-twice
returns-clause-twice c = twice

pub returns-clause-not_asker : goal.returns-clause-not_asker
returns-clause-not_asker c = not_asker

pub returns-clause-own_decision : goal.returns-clause-own_decision
returns-clause-own_decision c = own_decision

pub returns-clause-early_decision : goal.returns-clause-early_decision
returns-clause-early_decision c = early_decision

pub returns-clause-no_process : goal.returns-clause-no_process
returns-clause-no_process c = no_process

pub returns-clause-own_name : goal.returns-clause-own_name
returns-clause-own_name c = own_name
