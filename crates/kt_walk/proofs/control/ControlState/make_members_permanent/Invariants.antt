use Rattle.std.proofs.Common.{◌≤◌}
use Rattle.kt_meaning.specs.Past.{Past}
use Rattle.kt_walk.specs.Stages.{with_permanent, permanent_below, IsWithin}
use Rattle.kt_walk.specs.PartsOf.{ShowsProcessStates}
use Rattle.kt_walk.specs.ControlOf.{KeepsRest}
use Rattle.kt_walk.proofs.control.ControlState.make_members_permanent.Given as goal

abbrev pub invariant-loop-number : goal.invariant-loop-number
invariant-loop-number l = record {
  low : l.number ≤ 64;
  rest : KeepsRest l.initial.self l.self;
  last_permanent : (s : Past) → ShowsProcessStates l.initial.self.process_states.items s → IsWithin l.instance s → ShowsProcessStates l.self.process_states.items (with_permanent s (permanent_below l.number l.instance s.permanent));
}
