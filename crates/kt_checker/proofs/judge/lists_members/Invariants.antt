use Rattle.std.proofs.Common.{◌≡◌, ℕ, ◌<◌, Some, List}
use Rattle.std.specs.List.{slice_get}
use Rattle.kt_checker.proofs.judge.lists_members.Given as goal

abbrev pub invariant-loop-index : goal.invariant-loop-index
invariant-loop-index l = (k q : ℕ) (chain : List ℕ) → k < l.index → slice_get l.listed k ≡ Some (q, chain) → slice_get l.instance.members.items k ≡ Some q
