use Rattle.std.proofs.Common.{◌≡◌, ◌+◌, ℕ}
use Rattle.kt_core.specs.Agendas.{ArePlaces}
use Rattle.kt_core.proofs.agenda.places.Given as goal

-- from the place that was come to, to the end
abbrev pub invariant-loop-back : goal.invariant-loop-back
invariant-loop-back l = (i : ℕ) → i + l.back ≡ l.count → ArePlaces l.commands l.next l.following.items i
