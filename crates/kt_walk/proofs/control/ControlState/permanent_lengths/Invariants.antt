use Rattle.std.proofs.Common.{◌≡◌, ℕ, ◌<◌, ◌≤◌, Some, length}
use Rattle.std.specs.List.{slice_get, slice_index}
use Rattle.kt_walk.specs.declared.process_state.ProcessState.{ProcessState}
use Rattle.kt_walk.proofs.control.ControlState.permanent_lengths.Given as goal

abbrev pub invariant-loop-number : goal.invariant-loop-number
invariant-loop-number l = record {
  low : l.number ≤ 64;
  count : length l.lengths ≡ 64;
  each : (q : ℕ) (v : ProcessState) → q < l.number → slice_get l.self.process_states.items q ≡ Some v → slice_index l.lengths q ≡ v.permanent;
}
