use Rattle.std.proofs.Common.{◌≡◌, ◌+◌, ◌++◌, map, take, vec_len, vec_capacity}
use Rattle.kt_walk.specs.Arrivals.{undo}
use Rattle.kt_walk.proofs.received_from.undo_all.Given as goal

abbrev pub invariant-loop-arrival : goal.invariant-loop-arrival
invariant-loop-arrival l = record {
  items : l.undone.items ≡ l.initial.undone.items ++ map undo (take l.arrival-index l.arrivals);
  len : vec_len l.undone ≡ vec_len l.initial.undone + l.arrival-index;
  capacity : vec_capacity l.undone ≡ vec_capacity l.initial.undone;
}
