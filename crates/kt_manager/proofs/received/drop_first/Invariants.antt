use Rattle.std.specs.VecDeque.{deque_capacity}
use Rattle.std.proofs.Common.{◌≡◌, drop}
use Rattle.kt_manager.proofs.received.drop_first.Given as goal

abbrev pub invariant-loop-one : goal.invariant-loop-one
invariant-loop-one l = record {
  items : l.items.items ≡ drop l._one l.initial.items.items;
  space : deque_capacity l.items ≡ deque_capacity l.initial.items;
}
