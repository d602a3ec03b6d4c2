use Rattle.std.proofs.Common.{◌≡◌, ◌+◌, ◌++◌, vec_len}
use Rattle.std.specs.VecDeque.{deque_len, deque_capacity}
use Rattle.kt_walk.proofs.gap_buffer.move_back.Given as goal

abbrev pub invariant-loop : goal.invariant-loop
invariant-loop l = record {
  messages : l.passed.items ++ l.next.items ≡ l.initial.passed.items ++ l.initial.next.items;
  cursor : vec_len l.passed + l.counter ≡ vec_len l.initial.passed;
  rest : deque_len l.next ≡ deque_len l.initial.next + l.counter;
  capacity : deque_capacity l.next ≡ deque_capacity l.initial.next;
}
