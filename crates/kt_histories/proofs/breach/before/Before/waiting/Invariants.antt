use Rattle.kt_histories.proofs.InTransit.{IsWaitingTo}
use Rattle.kt_histories.proofs.breach.before.Before.waiting.Given as goal

abbrev pub invariant-loop-place : goal.invariant-loop-place
invariant-loop-place l = IsWaitingTo l.self.rows.now l.from l.p l.initial.waiting l.place l.waiting
