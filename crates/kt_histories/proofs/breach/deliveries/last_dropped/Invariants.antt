use Rattle.std.proofs.Common.{take}
use Rattle.kt_meaning.specs.Past.{past}
use Rattle.kt_histories.specs.Breaches.{IsLastDropped}
use Rattle.kt_histories.proofs.breach.deliveries.last_dropped.Given as goal

abbrev pub invariant-loop-place : goal.invariant-loop-place
invariant-loop-place l = IsLastDropped (past (take l.place l.rows)) l.p l.from l.last
