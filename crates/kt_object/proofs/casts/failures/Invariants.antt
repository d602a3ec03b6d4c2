use Rattle.std.proofs.Common.{◌≡◌, ◌<◌, ℕ, take, length}
use Rattle.std.specs.Prelude.{slice_index}
use Rattle.kt_plan.specs.Failures.{failures_of}
use Rattle.kt_object.proofs.casts.failures.Given as goal

abbrev pub invariant-loop-command : goal.invariant-loop-command
invariant-loop-command l = record {
  size : length l.failures ≡ 64;
  counted : (p : ℕ) → p < 64 → slice_index l.failures p ≡ failures_of (take l.command-index l.commands) p;
}
