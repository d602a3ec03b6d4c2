use Rattle.std.proofs.Common.{◌<◌, ℕ}
use Rattle.kt_system.specs.Takes.{WithSome, is_held}
use Rattle.kt_system.proofs.system.System.held_taker.Given as goal

abbrev pub invariant-loop-number : goal.invariant-loop-number
invariant-loop-number l = (p : ℕ) → p < l.number → ¬ WithSome (is_held l.self) p
