use Rattle.std.proofs.Common.{◌<◌, ◌≤◌, ◌+◌, ℕ}
use Rattle.std.specs.List.{slice_index_or}
use Rattle.kt_plan.specs.declared.commands.Command.{Command}
use Rattle.kt_plan.proofs.plan.never_fall.Given as goal

abbrev pub invariant-loop-place : goal.invariant-loop-place
invariant-loop-place l = (k : ℕ) (d : Command) → k + 1 < l.place → (slice_index_or l.commands k d).phase ≤ (slice_index_or l.commands (k + 1) d).phase
