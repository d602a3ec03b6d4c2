use Rattle.std.proofs.Common.{List, ℕ}
use Rattle.std.specs.Prelude.{not}
use Rattle.kt_spacetime.specs.declared.event.Event.{Event}
use Rattle.kt_meaning.specs.Past.{past}
use Rattle.kt_histories.specs.HistoriesOf.{HistoriesOf}
use Rattle.kt_explain.proofs.FilledSets.{IsFilledTo}
use Rattle.kt_explain.proofs.judged.down.Given as goal

abbrev pub invariant-loop-number : goal.invariant-loop-number
invariant-loop-number l = (rows : List Event) → HistoriesOf l.histories rows → IsFilledTo (λ (p : ℕ). not ((past rows).up p)) l.number l.set
