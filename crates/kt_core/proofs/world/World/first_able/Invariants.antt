use Rattle.kt_core.specs.Worlds.{IsFirstBelow}
use Rattle.kt_core.proofs.world.World.first_able.Given as goal

abbrev pub invariant-loop-number : goal.invariant-loop-number
invariant-loop-number l = IsFirstBelow l.self l.number l.first
