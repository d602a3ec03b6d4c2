use Rattle.std.proofs.Common.{sym, map, subst}
use Rattle.kt_meaning.specs.Passing.{IsChain}
use Rattle.kt_checker.specs.Followed.{message_of}
use Rattle.kt_checker.proofs.Following.{chain_none, path_end}
use Rattle.kt_checker.proofs.chains.end_of.Goals as goal

pub returns-in-Some : goal.returns-in-Some
returns-in-Some c = λ s certificate same path.
    subst (λ q. IsChain s certificate.inst certificate.kind q (map message_of c.args.path.now) c.in-Some.step.to) same (path_end s certificate c.args.path.now c.in-Some.step c.in-Some.ensures.some path)

pub returns-in-None : goal.returns-in-None
returns-in-None c = λ s certificate same path.
    subst (λ steps. IsChain s certificate.inst certificate.kind c.args.initiator (map message_of steps) c.args.initiator) (sym c.in-None.ensures.none) (chain_none s certificate.inst certificate.kind c.args.initiator)
