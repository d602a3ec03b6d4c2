use Rattle.std.proofs.Common.{refl}
use Rattle.kt_walk.proofs.WalkSteps.{began_row}
use Rattle.kt_walk.proofs.control.ControlState.begin.Goals as goal

pub returns-clause-fed : goal.returns-clause-fed
returns-clause-fed c = λ rows h unbroken.
    rw (c.count_row.ensures, c.in_ok-push.ensures.items) (began_row _ rows c.args.p c.args.inst c.args.kind _ h unbroken refl refl refl c.empty.ensures refl)
