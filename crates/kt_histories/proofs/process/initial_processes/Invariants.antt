use Rattle.std.proofs.Common.{◌≡◌, ℕ, ◌≤◌, Some, length}
use Rattle.std.specs.List.{slice_get}
use Rattle.kt_histories.specs.declared.process.Process.{Process}
use Rattle.kt_meaning.specs.Past.{start}
use Rattle.kt_histories.specs.Standing.{ShowsProcess}
use Rattle.kt_histories.proofs.process.initial_processes.Given as goal

abbrev pub invariant-loop-number : goal.invariant-loop-number
invariant-loop-number l = record {
  count : length l.processes.items ≡ l._number;
  low : l._number ≤ 64;
  each : (p : ℕ) (v : Process) → slice_get l.processes.items p ≡ Some v → ShowsProcess v start p;
}
