use Rattle.std.proofs.Common.{◌+◌, ◌-◌, ◌≤◌, vec_len}
use Rattle.std.specs.Prelude.{vec_capacity}
use Rattle.kt_node.specs.Clusters.{link}
use Rattle.kt_manager.specs.Effects.{put_to}
use Rattle.kt_node.proofs.OnWay.{HasPut, HasKept}
use Rattle.kt_node.proofs.cluster.turns.put.Given as goal

abbrev pub invariant-loop-number : goal.invariant-loop-number
invariant-loop-number l = record {
  puts : HasPut l.number (link l.initial.on_way.items) (link l.on_way.items) l.p l.output.clock (put_to l.output.effects.parcels);
  others : HasKept l.number (link l.initial.on_way.items) (link l.on_way.items);
  room : vec_len l.on_way + (64 - l.number) ≤ vec_capacity l.on_way;
}
