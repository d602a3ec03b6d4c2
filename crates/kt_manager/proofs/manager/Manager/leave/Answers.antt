use Rattle.std.proofs.Common.{sym, subst}
use Rattle.std.specs.Prelude.{None}
use Rattle.kt_process.specs.ProcessStates.{ProcessState}
use Rattle.kt_process.specs.Shown.{IsSeenAs}
use Rattle.kt_machine.specs.Seen.{SeenProcess}
use Rattle.kt_manager.specs.Managers.{ManagerState, HoldsFor, process_of, after_closing}
use Rattle.kt_manager.proofs.Processes.{inside, closed_is, closed_inst}
use Rattle.kt_manager.proofs.Lists.{holds_as}
use Rattle.kt_manager.proofs.manager.Manager.leave.Goals as goal

pub returns-clause-left : goal.returns-clause-left
returns-clause-left c = λ y h there.
    let i = subst (λ (w : ManagerState). HoldsFor w (after_closing c.args.commit y)) (sym c.self.view_is) (c.settle_kept.ensures.settled y h) in
    let s = subst (λ (w : ManagerState). IsSeenAs w.process (process_of y)) (sym c.self.view_is) (subst (λ (x : ProcessState). IsSeenAs x (process_of y)) (sym c.settle_kept.ensures.process) h.process) in
    record {
      holds = holds_as _ c.close.new.self None _ c.close.ensures.processes i;
      process = subst (λ (z : SeenProcess). IsSeenAs c.close.new.self z) (closed_is c.args.commit y) (c.close.ensures.shows (process_of y) s (inside _ y s there));
      inst = closed_inst c.args.commit y;
    }
