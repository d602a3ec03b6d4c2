use Rattle.kt_merge.specs.Heads.{IsBestClock}
use Rattle.kt_merge.proofs.heads.least.Given as goal

abbrev pub invariant-loop-part : goal.invariant-loop-part
invariant-loop-part l = IsBestClock l.heads l.part l.best
