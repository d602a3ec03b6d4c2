use Rattle.std.proofs.Common.{ℕ, ◌<◌, List, [], ◌∷◌}
use Rattle.kt_spacetime.specs.declared.event.Event.{Event}
use Rattle.kt_meaning.specs.Past.{past}
use Rattle.kt_walk.specs.WalkOf.{WalkOf}
use Rattle.kt_meaning.specs.Passing.{IsChain}
use Rattle.kt_checker.proofs.chains.next_in_chain.Given as goal

abbrev pub invariant-loop-number : goal.invariant-loop-number
invariant-loop-number l = (rows : List Event) (next : ℕ) → next < l.number → WalkOf l.walk rows → IsChain (past rows) l.certificate.inst l.certificate.kind l.at (l.msg ∷ []) next → ⊥
