use Rattle.std.proofs.Common.{◌≡◌, ℕ, ◌<◌, Some}
use Rattle.std.specs.List.{slice_get}
use Rattle.kt_walk.specs.declared.received_from.Undone.{Undone}
use Rattle.kt_walk.proofs.lookup.find_undone.Given as goal

abbrev pub invariant-loop-message : goal.invariant-loop-message
invariant-loop-message l = record {
  none : (k : ℕ) (u : Undone) → k < l.message-index → slice_get l.undone k ≡ Some u → u.msg ≡ l.msg → ⊥;
}
