use Rattle.kt_node.proofs.Runs.{nodes_shown, channels_shown}
use Rattle.kt_node.proofs.RaisedNets.{net_raised}
use Rattle.kt_node.proofs.RaisedRuns.{asked_from_each, begun_from_each, heeded_from_each, numbered_from_each, owed_from_each, speaks_from_each, speaks_next_from_each}
use Rattle.kt_node.proofs.laws.nets_are_runs.Goals as goal

pub returns-clause-nodes : goal.returns-clause-nodes
returns-clause-nodes c = nodes_shown

pub returns-clause-channels : goal.returns-clause-channels
returns-clause-channels c = channels_shown

pub returns-clause-raised : goal.returns-clause-raised
returns-clause-raised c = λ n first. net_raised first n

pub returns-clause-numbered : goal.returns-clause-numbered
returns-clause-numbered c = numbered_from_each

pub returns-clause-speaks : goal.returns-clause-speaks
returns-clause-speaks c = speaks_from_each

pub returns-clause-speaks_next : goal.returns-clause-speaks_next
returns-clause-speaks_next c = speaks_next_from_each

pub returns-clause-begun : goal.returns-clause-begun
returns-clause-begun c = begun_from_each

pub returns-clause-owed : goal.returns-clause-owed
returns-clause-owed c = owed_from_each

pub returns-clause-asked : goal.returns-clause-asked
returns-clause-asked c = asked_from_each

pub returns-clause-heeded : goal.returns-clause-heeded
returns-clause-heeded c = heeded_from_each
