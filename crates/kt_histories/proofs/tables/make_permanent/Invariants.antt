use Rattle.std.proofs.Common.{◌≡◌, ℕ, ◌≤◌, ◌<◌, Some, length}
use Rattle.std.specs.List.{slice_get}
use Rattle.kt_histories.specs.declared.process.Process.{Process}
use Rattle.kt_histories.specs.Tables.{promoted}
use Rattle.kt_histories.proofs.tables.make_permanent.Given as goal

abbrev pub invariant-loop-number : goal.invariant-loop-number
invariant-loop-number l = record {
  all : length l.processes ≡ 64;
  low : l.number ≤ 64;
  done : (q : ℕ) (v : Process) → q < l.number → slice_get l.initial.processes q ≡ Some v → slice_get l.processes q ≡ Some (promoted l.instance q v);
  to_do : (q : ℕ) (v : Process) → l.number ≤ q → slice_get l.initial.processes q ≡ Some v → slice_get l.processes q ≡ Some v;
}
