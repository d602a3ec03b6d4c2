use Rattle.kt_system.proofs.Saving.{none_held}
use Rattle.kt_system.proofs.system.System.takes_held.Goals as goal

pub returns-then-holds_none-clause-none : goal.returns-then-holds_none-clause-none
returns-then-holds_none-clause-none c = λ e from.
    none_held c.args.self.now c.args.at from (c.holds_none.ensures.0 c.if-holds_none.true from c.args.at)
