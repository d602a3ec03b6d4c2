use Rattle.kt_node.proofs.NodeKeeps.{keeps_where, counts_is}
use Rattle.kt_node.proofs.laws.looks_of_nodes.Goals as goal

pub returns-clause-keeps : goal.returns-clause-keeps
returns-clause-keeps c = keeps_where

pub returns-clause-counts : goal.returns-clause-counts
returns-clause-counts c = counts_is
