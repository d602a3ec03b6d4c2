use Rattle.std.proofs.Common.{◌≡◌, ℕ, take}
use Rattle.kt_base.specs.Sets.{has}
use Rattle.kt_process.specs.Asks.{is_asked_in}
use Rattle.kt_process.proofs.asks.targets_of.Given as goal

abbrev pub invariant-loop-ask : goal.invariant-loop-ask
invariant-loop-ask l = (q : ℕ) → has l.targets q ≡ is_asked_in (take l.ask-index l.asks) q
