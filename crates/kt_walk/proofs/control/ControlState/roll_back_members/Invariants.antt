use Rattle.std.proofs.Common.{ℕ, ◌≤◌, length}
use Rattle.kt_meaning.specs.Past.{Past}
use Rattle.kt_walk.specs.PartsOf.{ShowsProcessStates}
use Rattle.kt_walk.specs.Stages.{with_live, undone_below}
use Rattle.kt_walk.specs.ControlOf.{KeepsRest}
use Rattle.kt_walk.proofs.control.ControlState.roll_back_members.Given as goal

abbrev pub invariant-loop-number : goal.invariant-loop-number
invariant-loop-number l = record {
  low : l.number ≤ 64;
  rest : KeepsRest l.initial.self l.self;
  undone : (s : Past) → ShowsProcessStates l.initial.self.process_states.items s → ((q : ℕ) → s.permanent q ≤ length (s.live q)) → ShowsProcessStates l.self.process_states.items (with_live s (undone_below l.number l.instance s.permanent s.live));
}
