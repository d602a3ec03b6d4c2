use Rattle.std.proofs.Common.{◌≡◌, ◌+◌, ◌*◌, ◌<◌, ◌≤◌, take, drop}
use Rattle.kt_walk.specs.Marks.{IsPower, ones, marks_of}
use Rattle.kt_walk.proofs.TreeFacts.{upto}
use Rattle.kt_walk.proofs.counts.Counts.count_before.Given as goal

abbrev pub invariant-loop-first : goal.invariant-loop-first
invariant-loop-first l = record {
  power : IsPower l.first;
  within : l.first ≤ l.self-inside.width;
  low : l.first ≤ l.node;
  high : l.node < 2 * l.first;
  counted : l.count + upto l.self-inside.nodes.items l.node ≡ ones (take l.place (marks_of (drop (l.self-inside.width + l.self-inside.base) l.self-inside.nodes.items))) + upto l.self-inside.nodes.items l.first;
}

abbrev pub decreases-loop-first : goal.decreases-loop-first
decreases-loop-first l = l.node
