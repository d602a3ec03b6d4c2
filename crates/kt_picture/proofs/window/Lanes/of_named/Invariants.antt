use Rattle.std.proofs.Common.{◌≡◌, ◌≤◌, filter, length}
use Rattle.std.specs.List.{range_with_len}
use Rattle.kt_base.specs.Sets.{has}
use Rattle.kt_picture.proofs.window.Lanes.of_named.Given as goal

abbrev pub invariant-loop-number : goal.invariant-loop-number
invariant-loop-number l = record {
  items : l.processes.items ≡ filter (has l.named) (range_with_len 0 l.number);
  few : length l.processes.items ≤ l.number;
  low : l.number ≤ 64;
}
