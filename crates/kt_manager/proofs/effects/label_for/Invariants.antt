use Rattle.std.proofs.Common.{◌≡◌, drop}
use Rattle.kt_manager.specs.Effects.{label_for}
use Rattle.kt_manager.proofs.effects.label_for.Given as goal

abbrev pub invariant-loop-ask : goal.invariant-loop-ask
invariant-loop-ask l = label_for l.asks l.q ≡ label_for (drop l.ask-index l.asks) l.q
