use Rattle.std.proofs.Common.{take}
use Rattle.kt_histories.specs.Standing.{ReplayStandsFor}
use Rattle.kt_histories.proofs.histories.Histories.of.Given as goal

abbrev pub invariant-loop-row : goal.invariant-loop-row
invariant-loop-row l = ReplayStandsFor l.replay (take l.row-index l.row-items)
