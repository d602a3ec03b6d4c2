use Rattle.std.proofs.Common.{◌≡◌, map, take}
use Rattle.kt_plan.proofs.names.Names.copy.Given as goal

abbrev pub invariant-loop-name : goal.invariant-loop-name
invariant-loop-name l = l.names ≡ take l.name-index l.self
