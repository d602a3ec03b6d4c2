use Rattle.std.proofs.Common.{◌≡◌, ◌<◌, ℕ, [], map, slice_index_or}
use Rattle.kt_threads.specs.Books.{errands_by}
use Rattle.kt_threads.proofs.errands.all_agree.Given as goal

abbrev pub invariant-loop-p : goal.invariant-loop-p
invariant-loop-p g l = (p : ℕ) → p < l.p → slice_index_or (map (λ d. d.errands) l.done) p [] ≡ errands_by p l.asked
