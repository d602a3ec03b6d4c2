use Rattle.std.proofs.Common.{◌≡◌, ℕ, ◌<◌, List, length}
use Rattle.std.specs.List.{slice_index}
use Rattle.kt_spacetime.specs.declared.event.Event.{Event}
use Rattle.kt_meaning.specs.Past.{past}
use Rattle.kt_walk.specs.WalkOf.{WalkOf}
use Rattle.kt_meaning.specs.Passing.{ListsReady, decided_cut}
use Rattle.kt_checker.proofs.chains.cut_of.Given as goal

abbrev pub invariant-loop-number : goal.invariant-loop-number
invariant-loop-number l = record {
  long : length l.cut ≡ 64;
  lengths : (rows : List Event) (p : ℕ) → WalkOf l.walk rows → ListsReady (past rows) l.certificate → p < l.number → slice_index l.cut p ≡ decided_cut (past rows) l.certificate.inst l.certificate.kind p;
}
