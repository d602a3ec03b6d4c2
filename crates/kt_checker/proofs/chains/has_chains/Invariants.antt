use Rattle.std.proofs.Common.{◌≡◌, ℕ, ◌<◌, Some, List}
use Rattle.std.specs.List.{slice_get}
use Rattle.kt_spacetime.specs.declared.event.Event.{Event}
use Rattle.kt_meaning.specs.Past.{past}
use Rattle.kt_walk.specs.WalkOf.{WalkOf}
use Rattle.kt_meaning.specs.Passing.{IsListOf}
use Rattle.kt_checker.specs.Followed.{IsPath}
use Rattle.kt_checker.proofs.chains.has_chains.Given as goal

abbrev pub invariant-loop-process : goal.invariant-loop-process
invariant-loop-process l = record {
  path : (rows : List Event) → WalkOf l.walk rows → IsPath (past rows) l.certificate l.path;
  lists : (rows : List Event) (i p : ℕ) (chain : List ℕ) → i < l.process-index → WalkOf l.walk rows → slice_get l.process-items i ≡ Some (p, chain) → IsListOf (past rows) l.certificate.inst l.certificate.kind l.certificate.initiator p chain;
}
