use Rattle.std.proofs.Common.{◌≡◌, ◌*◌, ◌<◌, drop}
use Rattle.kt_walk.specs.Marks.{HasLeaves}
use Rattle.kt_walk.proofs.TreeFacts.{IsAlmost}
use Rattle.kt_walk.proofs.counts.Counts.put.Given as goal

abbrev pub invariant-loop-node : goal.invariant-loop-node
invariant-loop-node l = record {
  leaves : HasLeaves l.self-inside.nodes.items l.self-inside.width l.self-inside.base;
  almost : IsAlmost l.node l.self-inside.nodes.items l.self-inside.width;
  width : l.self-inside.width ≡ l.initial.self-inside.width;
  base : l.self-inside.base ≡ l.initial.self-inside.base;
  same : drop l.initial.self-inside.width l.self-inside.nodes.items ≡ drop l.initial.self-inside.width l.initial.self-inside.nodes.items;
  some : 0 < l.node;
  within : l.node < 2 * l.self-inside.width;
}

abbrev pub decreases-loop-node : goal.decreases-loop-node
decreases-loop-node l = l.node
