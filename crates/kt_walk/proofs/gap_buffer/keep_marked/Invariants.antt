use Rattle.std.proofs.Common.{◌≡◌, ◌++◌, ◌≤◌, take, drop}
use Rattle.std.specs.VecDeque.{deque_len, deque_capacity}
use Rattle.kt_walk.specs.Marks.{pick}
use Rattle.kt_walk.proofs.gap_buffer.keep_marked.Given as goal

abbrev pub invariant-loop-index : goal.invariant-loop-index
invariant-loop-index l = record {
  messages : l.messages.items ≡ drop l.index l.initial.messages.items ++ pick (take l.index l.marks.marks) (take l.index l.initial.messages.items);
  len : deque_len l.messages ≤ deque_len l.initial.messages;
  capacity : deque_capacity l.messages ≡ deque_capacity l.initial.messages;
}
