use Rattle.std.proofs.Common.{take}
use Rattle.kt_histories.specs.HistoriesOf.{HistoriesOf}
use Rattle.kt_histories.proofs.breach.before.Before.of.Given as goal

abbrev pub invariant-loop-row : goal.invariant-loop-row
invariant-loop-row l = HistoriesOf l.histories (take l.row-index l.rows)
