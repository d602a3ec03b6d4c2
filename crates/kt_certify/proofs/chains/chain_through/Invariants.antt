use Rattle.std.proofs.Common.{◌≡◌, List, drop}
use Rattle.kt_spacetime.specs.declared.event.Event.{Event}
use Rattle.kt_meaning.specs.Past.{past}
use Rattle.kt_walk.specs.WalkOf.{WalkOf}
use Rattle.kt_meaning.specs.Linking.{least_link, chain_through}
use Rattle.kt_certify.proofs.chains.chain_through.Given as goal

abbrev pub invariant-loop-q : goal.invariant-loop-q
invariant-loop-q l = (rows : List Event) → WalkOf l.walk rows → chain_through (least_link (past rows) l.inst l.kind l.p) l.earlier ≡ chain_through (least_link (past rows) l.inst l.kind l.p) (drop l.q-index l.earlier)
