use Rattle.std.proofs.Common.{◌-◌}
use Rattle.kt_walk.proofs.TreeFacts.{IsLevel}
use Rattle.kt_walk.proofs.counts.Counts.place_of.Given as goal

abbrev pub invariant-loop-node : goal.invariant-loop-node
invariant-loop-node l = IsLevel l.self-inside.nodes.items l.self-inside.width l.index l.node l.rest

abbrev pub decreases-loop-node : goal.decreases-loop-node
decreases-loop-node l = l.self-inside.width - l.node
