use Rattle.std.proofs.Common.{◌≡◌, ◌<◌, List, ℕ, false}
use Rattle.kt_spacetime.specs.declared.event.Event.{Event}
use Rattle.kt_meaning.specs.Past.{past}
use Rattle.kt_meaning.specs.Legal.{is_in}
use Rattle.kt_histories.specs.HistoriesOf.{HistoriesOf}
use Rattle.kt_explain.proofs.judged.is_anyone_in.Given as goal

abbrev pub invariant-loop-number : goal.invariant-loop-number
invariant-loop-number l = (rows : List Event) (p : ℕ) → HistoriesOf l.histories rows → p < l.number → is_in (past rows) p l.inst ≡ false
