use Rattle.kt_histories.specs.Breaches.{KnowsBefore}
use Rattle.kt_histories.proofs.Delivered.{IsLatestUpTo}
use Rattle.kt_histories.proofs.breach.before.Before.latest_received.Given as goal

abbrev pub invariant-loop-place : goal.invariant-loop-place
invariant-loop-place l = (before : KnowsBefore l.self) → IsLatestUpTo l.self.rows.now before.legal l.p l.from l.place l.latest
