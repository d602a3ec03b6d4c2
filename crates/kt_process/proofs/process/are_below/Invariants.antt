use Rattle.std.proofs.Common.{◌≡◌, ℕ, ◌<◌, true}
use Rattle.kt_base.specs.Sets.{has}
use Rattle.kt_process.proofs.process.are_below.Given as goal

abbrev pub invariant-loop-number : goal.invariant-loop-number
invariant-loop-number l = (q : ℕ) → q < l.number → has l.set q ≡ true → q < l.count
