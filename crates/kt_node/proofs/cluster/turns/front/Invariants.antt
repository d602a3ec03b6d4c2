use Rattle.std.proofs.Common.{◌≡◌, [], take}
use Rattle.kt_node.specs.Clusters.{link}
use Rattle.kt_node.proofs.cluster.turns.front.Given as goal

abbrev pub invariant-loop-place : goal.invariant-loop-place
invariant-loop-place l = link (take l.place l.on_way) l.from l.to ≡ []
