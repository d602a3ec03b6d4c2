use Rattle.std.proofs.Common.{sym, subst}
use Rattle.kt_walk.specs.PartsOf.{PartsOf}
use Rattle.kt_walk.specs.WalkParts.{WalkParts, control_of}
use Rattle.kt_walk.proofs.walk.Walk.is_up.Goals as goal

pub returns : goal.returns
returns c = λ rows h.
    let control = subst (λ (w : WalkParts). PartsOf (control_of w) rows) (sym c.self.view_is) h.control in
    (control.of_processes.each c.args.p c.process_state.result.now c.process_state.ensures).up
