use Rattle.std.proofs.Common.{take}
use Rattle.std.specs.Prelude.{IfSome}
use Rattle.kt_histories.specs.HistoriesOf.{HistoriesOf}
use Rattle.kt_histories.specs.Breaches.{IsUndoing}
use Rattle.kt_histories.proofs.undoing.undoing.Given as goal

abbrev pub invariant-loop-place : goal.invariant-loop-place
invariant-loop-place l = record { known : HistoriesOf l.histories (take l.place l.rows); undone : IfSome l.undone (IsUndoing l.rows l.msg) }
