use Rattle.std.proofs.Common.{◌≤◌, ◌*◌}
use Rattle.kt_core.proofs.Counted.{Counted}
use Rattle.kt_core.proofs.world.World.count_of_movers.Given as goal

abbrev pub invariant-loop-number : goal.invariant-loop-number
invariant-loop-number l = Counted l.self l.left l.count l._number × (l.count ≤ 65 * l._number)
