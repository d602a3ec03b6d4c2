use Rattle.std.proofs.Common.{◌≡◌, ℕ, ◌<◌, true, Some}
use Rattle.std.specs.List.{slice_get}
use Rattle.kt_checker.specs.declared.decisions.Instance.{Instance}
use Rattle.kt_checker.specs.declared.decisions.Decision.{Decision}
use Rattle.kt_checker.proofs.decisions.Instances.first_missing.Given as goal

abbrev pub invariant-loop-index : goal.invariant-loop-index
invariant-loop-index l = (k : ℕ) (v : Instance) (d : Decision) → k < l.index → slice_get l.self.list.items k ≡ Some v → v.decision ≡ Some d → slice_get l.seen k ≡ Some true
