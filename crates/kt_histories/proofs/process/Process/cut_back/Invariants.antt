use Rattle.std.proofs.Common.{length}
use Rattle.kt_histories.proofs.ProcessFacts.{IsCutting}
use Rattle.kt_histories.proofs.process.Process.cut_back.Given as goal

abbrev pub invariant-loop-self : goal.invariant-loop-self
invariant-loop-self l = IsCutting l.initial.self l.self l.initial.undone l.undone

abbrev pub decreases-loop-self : goal.decreases-loop-self
decreases-loop-self l = length l.self.history
