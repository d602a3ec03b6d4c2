use Rattle.std.proofs.Common.{◌≡◌, ℕ, ◌<◌, Some, List, length}
use Rattle.std.specs.List.{slice_index}
use Rattle.kt_spacetime.specs.declared.event.Event.{Event}
use Rattle.kt_meaning.specs.Past.{past, kind_of}
use Rattle.kt_meaning.specs.Legal.{IsLegal}
use Rattle.kt_meaning.specs.Chains.{members}
use Rattle.kt_histories.specs.HistoriesOf.{HistoriesOf}
use Rattle.kt_meaning.specs.Passing.{decided_cut}
use Rattle.kt_explain.proofs.orphans.cut_of.Given as goal

abbrev pub invariant-loop-number : goal.invariant-loop-number
invariant-loop-number l = record {
  long : length l.cut ≡ 64;
  lengths : (rows : List Event) (p : ℕ) → HistoriesOf l.histories rows → IsLegal rows → kind_of (past rows) l.inst ≡ Some l.kind → l.joined ≡ members rows l.inst → p < l.number
      → slice_index l.cut p ≡ decided_cut (past rows) l.inst l.kind p;
}
