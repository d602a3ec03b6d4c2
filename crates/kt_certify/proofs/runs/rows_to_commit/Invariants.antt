use Rattle.std.proofs.Common.{◌≡◌, ◌≤◌, ◌+◌, ℕ, Some, false, length}
use Rattle.std.specs.Prelude.{slice_get}
use Rattle.kt_spacetime.specs.declared.event.Event.{Event}
use Rattle.kt_meaning.specs.Decisions.{is_commit}
use Rattle.kt_certify.proofs.runs.rows_to_commit.Given as goal

abbrev pub invariant-loop-back : goal.invariant-loop-back
invariant-loop-back l = (n : ℕ) (row : Event) → length l.rows ≤ n + l.back → slice_get l.rows n ≡ Some row → is_commit row ≡ false
