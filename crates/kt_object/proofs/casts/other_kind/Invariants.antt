use Rattle.std.proofs.Common.{◌≡◌, ◌<◌, ℕ, true, slice_index_or}
use Rattle.std.specs.Prelude.{slice_index, ◌==◌}
use Rattle.std.specs.List.{list_all}
use Rattle.kt_object.proofs.casts.other_kind.Given as goal

abbrev pub invariant-loop-p : goal.invariant-loop-p
invariant-loop-p g l =
    (q : ℕ) (row : _) → q < l.p
    → list_all (λ b. (goal.Recoverable-dyn g (b.vtable, b.value)).kind_of b.value == slice_index l.kinds q) (slice_index_or l.cast q row).items ≡ true
