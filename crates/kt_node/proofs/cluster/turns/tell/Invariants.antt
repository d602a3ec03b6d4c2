use Rattle.std.proofs.Common.{◌≡◌, ◌+◌, ◌-◌, ◌≤◌, ◌++◌, length, map, take, vec_len}
use Rattle.std.specs.Prelude.{vec_capacity}
use Rattle.kt_node.specs.Clocks.{clocked_row}
use Rattle.kt_node.proofs.cluster.turns.tell.Given as goal

abbrev pub invariant-loop-event : goal.invariant-loop-event
invariant-loop-event l = record {
  told : l.rows.items ≡ l.initial.rows.items ++ map (clocked_row l.p l.clock) (take l.event-index l.told);
  room : vec_len l.rows + (length l.told - l.event-index) ≤ vec_capacity l.rows;
}
