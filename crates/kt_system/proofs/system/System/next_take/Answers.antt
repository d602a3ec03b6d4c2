use Rattle.kt_system.proofs.Takes.{next_take_is, no_take_is}
use Rattle.kt_system.proofs.system.System.next_take.Goals as goal

pub returns-in_err-at-clause-none : goal.returns-in_err-at-clause-none
returns-in_err-at-clause-none c = rw c.from_residual.ensures (no_take_is c.args.self.now c.in_err-at.ensures.first)

pub returns-clause-some : goal.returns-clause-some
returns-clause-some c = next_take_is c.args.self.now c.in_ok-at.at c.in_ok-from.from c.in_ok-at.ensures.within c.in_ok-from.ensures.within c.in_ok-at.ensures.first c.in_ok-from.ensures.first
