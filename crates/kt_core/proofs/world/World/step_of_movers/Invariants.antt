use Rattle.std.proofs.Common.{◌≡◌, ◌+◌, ℕ}
use Rattle.kt_core.proofs.Counted.{Counted}
use Rattle.kt_core.proofs.world.World.step_of_movers.Given as goal

abbrev pub invariant-loop-number : goal.invariant-loop-number
invariant-loop-number l = (count : ℕ) × Counted l.self l.left count l._number × (count + l.after ≡ l.place)
