use Rattle.kt_node.proofs.NetHistories.{net_live, net_permanent, net_live_idle, net_permanent_idle, net_permanent_within}
use Rattle.kt_node.proofs.histories.histories_of_nets.Goals as goal

pub returns-clause-live : goal.returns-clause-live
returns-clause-live c = net_live

pub returns-clause-permanent : goal.returns-clause-permanent
returns-clause-permanent c = net_permanent

pub returns-clause-live_idle : goal.returns-clause-live_idle
returns-clause-live_idle c = net_live_idle

pub returns-clause-permanent_idle : goal.returns-clause-permanent_idle
returns-clause-permanent_idle c = net_permanent_idle

pub returns-clause-permanent_within : goal.returns-clause-permanent_within
returns-clause-permanent_within c = net_permanent_within
