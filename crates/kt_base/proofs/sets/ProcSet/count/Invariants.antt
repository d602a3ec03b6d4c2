use Rattle.std.proofs.Common.{◌≡◌, ◌≤◌}
use Rattle.kt_base.specs.Sets.{count_below}
use Rattle.kt_base.proofs.sets.ProcSet.count.Given as goal

abbrev pub invariant-loop-number : goal.invariant-loop-number
invariant-loop-number l = (l.count ≡ count_below l.self-inside.bits l.number) × (l.count ≤ l.number)
