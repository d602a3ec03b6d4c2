use Rattle.std.proofs.Common.{◌≡◌, ◌≢◌, ℕ, ◌<◌, Some, List}
use Rattle.std.specs.List.{slice_get}
use Rattle.kt_checker.proofs.chains.is_listed.Given as goal

abbrev pub invariant-loop-process : goal.invariant-loop-process
invariant-loop-process l = (k q : ℕ) (chain : List ℕ) → k < l.process-index → slice_get l.process-items k ≡ Some (q, chain) → q ≢ l.p
