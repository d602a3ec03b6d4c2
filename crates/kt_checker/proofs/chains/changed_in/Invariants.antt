use Rattle.std.proofs.Common.{◌≡◌, ℕ, ◌<◌, false, List}
use Rattle.std.specs.List.{slice_index}
use Rattle.kt_base.specs.Sets.{has}
use Rattle.kt_spacetime.specs.declared.event.Event.{Event}
use Rattle.kt_meaning.specs.Past.{past}
use Rattle.kt_walk.specs.WalkOf.{WalkOf}
use Rattle.kt_meaning.specs.Passing.{earlier_cut}
use Rattle.kt_checker.proofs.chains.changed_in.Given as goal

abbrev pub invariant-loop-number : goal.invariant-loop-number
invariant-loop-number l = (rows : List Event) (p : ℕ) → WalkOf l.walk rows → p < l.number → has l.changed p ≡ false → slice_index l.cut p ≡ earlier_cut (past rows) l.kind p
