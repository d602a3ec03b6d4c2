use Rattle.std.proofs.Common.{◌≡◌, ◌+◌, ◌++◌, vec_len, vec_capacity}
use Rattle.std.specs.VecDeque.{deque_len, deque_capacity}
use Rattle.kt_walk.proofs.gap_buffer.move_on.Given as goal

abbrev pub invariant-loop : goal.invariant-loop
invariant-loop l = record {
  messages : l.passed.items ++ l.next.items ≡ l.initial.passed.items ++ l.initial.next.items;
  cursor : vec_len l.passed ≡ vec_len l.initial.passed + l.counter;
  rest : deque_len l.next + l.counter ≡ deque_len l.initial.next;
  room : vec_capacity l.passed ≡ vec_capacity l.initial.passed;
  capacity : deque_capacity l.next ≡ deque_capacity l.initial.next;
}
