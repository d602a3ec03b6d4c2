use Rattle.std.proofs.Common.{◌≡◌, List, take}
use Rattle.kt_spacetime.specs.declared.event.Event.{Event}
use Rattle.kt_meaning.specs.Past.{past}
use Rattle.kt_walk.specs.WalkOf.{WalkOf}
use Rattle.kt_meaning.specs.Linking.{chained, AreChainedTo}
use Rattle.kt_certify.proofs.chains.chained.Given as goal

abbrev pub invariant-loop-p : goal.invariant-loop-p
invariant-loop-p l = record {
  members : (rows : List Event) → WalkOf l.walk rows → l.members ≡ chained (past rows) l.inst l.kind l.initiator (take l.p-index l.joined);
  all : (rows : List Event) → WalkOf l.walk rows → AreChainedTo l.p-index (past rows) l.inst l.kind l.initiator l.joined;
}
