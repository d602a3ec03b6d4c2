use Rattle.std.proofs.Common.{◌≡◌, length}
use Rattle.kt_node.specs.Clusters.{AreFresh}
use Rattle.kt_node.proofs.cluster.fresh_nodes.Given as goal

abbrev pub invariant-loop-number : goal.invariant-loop-number
invariant-loop-number l = record {
  length : length l.nodes.items ≡ l.number;
  fresh : AreFresh l.nodes.items l.processes l.first;
}
