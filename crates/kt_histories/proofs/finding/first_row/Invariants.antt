use Rattle.std.proofs.Common.{◌≡◌, ◌<◌, ℕ, Some, true}
use Rattle.std.specs.List.{slice_get}
use Rattle.kt_spacetime.specs.declared.event.Event.{Event}
use Rattle.kt_histories.specs.Finding.{is_sought}
use Rattle.kt_histories.proofs.finding.first_row.Given as goal

abbrev pub invariant-loop-place : goal.invariant-loop-place
invariant-loop-place l = (n : ℕ) (other : Event) → n < l.place → slice_get l.rows n ≡ Some other → is_sought l.sought other ≡ true → ⊥
