use Rattle.std.proofs.Common.{◌≡◌, true, take}
use Rattle.kt_meaning.specs.Past.{past}
use Rattle.kt_histories.specs.Demands.{ask_all}
use Rattle.kt_histories.proofs.breach.before.Before.broken.Given as goal

abbrev pub invariant-loop-demand : goal.invariant-loop-demand
invariant-loop-demand l = ask_all (take l.demand-index l.demand-items) (past l.self.rows.now) ≡ true
