use Rattle.std.proofs.Common.{◌≡◌, ◌+◌, ◌<◌, ℕ, length, slice_index_or}
use Rattle.std.specs.Prelude.{slice_index}
use Rattle.kt_object.proofs.casts.has_sizes.Given as goal

abbrev pub invariant-loop-p : goal.invariant-loop-p
invariant-loop-p g l =
    (q : ℕ) (row : _) → q < l.p → length (slice_index_or l.cast q row).items ≡ slice_index l.failures q + 1
