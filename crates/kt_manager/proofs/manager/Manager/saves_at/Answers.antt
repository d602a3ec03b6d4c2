use Rattle.std.proofs.Common.{◌≡◌, ◌∙◌, ◌&&◌, sym, ap}
use Rattle.std.specs.Prelude.{is_none}
use Rattle.kt_process.specs.ProcessStates.{inst_of}
use Rattle.kt_manager.specs.Managers.{ManagerState}
use Rattle.kt_manager.proofs.Looking.{joins_is}
use Rattle.kt_manager.proofs.Processes.{shows_inside}
use Rattle.kt_manager.proofs.manager.Manager.saves_at.Goals as goal

pub returns-then-may_save : goal.returns-then-may_save
returns-then-may_save c = λ y h.
    let inside = shows_inside _ _ y c.self.view_is h in
    let free : c.may_save.result ≡ (is_none (inst_of c.self.inside.process.side) && c.self.inside.process.up) = c.may_save.ensures.process ∙ ap (λ (m : ManagerState). is_none (inst_of m.process.side) && m.process.up) (sym c.self.view_is) in
    c.joins_checkpoint.ensures ∙ joins_is c.self.inside.process y c.args.from c.args.label c.may_save.result c.if-may_save.true free (c.may_save.ensures.node y h) inside.process
