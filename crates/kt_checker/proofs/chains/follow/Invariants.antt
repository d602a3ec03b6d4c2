use Rattle.std.proofs.Common.{List, take}
use Rattle.kt_spacetime.specs.declared.event.Event.{Event}
use Rattle.kt_meaning.specs.Past.{past}
use Rattle.kt_walk.specs.WalkOf.{WalkOf}
use Rattle.kt_meaning.specs.Passing.{IsChain}
use Rattle.kt_checker.specs.Followed.{IsPath, IsPathOf}
use Rattle.kt_checker.proofs.chains.follow.Given as goal

abbrev pub invariant-loop-index : goal.invariant-loop-index
invariant-loop-index l = record {
  path : (rows : List Event) → WalkOf l.walk rows → IsPath (past rows) l.certificate l.fn.path → IsPath (past rows) l.certificate l.path;
  path_of : IsPathOf l.path (take l.index l.messages);
  led : (rows : List Event) → WalkOf l.walk rows → IsPath (past rows) l.certificate l.fn.path → IsChain (past rows) l.certificate.inst l.certificate.kind l.certificate.initiator (take l.index l.messages) l.at;
}
