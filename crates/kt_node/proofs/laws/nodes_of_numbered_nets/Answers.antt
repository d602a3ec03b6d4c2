use Rattle.kt_node.proofs.NearNets.{never_leaps}
use Rattle.kt_node.proofs.NumberedCalls.{again_call, comes_call, others_stay, own_call}
use Rattle.kt_node.proofs.laws.nodes_of_numbered_nets.Goals as goal

pub returns-clause-opens : goal.returns-clause-opens
returns-clause-opens c = λ n first p k h clock sent taken. record { node = h; clock = clock; sent = λ q l. sent q; taken = taken }

pub returns-clause-own : goal.returns-clause-own
returns-clause-own c = own_call

pub returns-clause-comes : goal.returns-clause-comes
returns-clause-comes c = comes_call

pub returns-clause-again : goal.returns-clause-again
returns-clause-again c = again_call

pub returns-clause-others : goal.returns-clause-others
returns-clause-others c = others_stay

pub returns-clause-near : goal.returns-clause-near
returns-clause-near c = never_leaps
