use Rattle.std.proofs.Common.{subst, sym}
use Rattle.std.specs.Prelude.{IfOk}
use Rattle.kt_base.specs.declared.words.Kind.{Kind}
use Rattle.kt_process.specs.Shown.{HearsAs}
use Rattle.kt_manager.specs.Managers.{process_of, number_for}
use Rattle.kt_manager.specs.Turns.{able_in, marks_in}
use Rattle.kt_manager.proofs.manager.Manager.hear.Goals as goal

pub returns-in-Checkpoint-clause-hears : goal.returns-in-Checkpoint-clause-hears
returns-in-Checkpoint-clause-hears c = λ y h.
    subst (λ (k : Kind). IfOk c.ask_to_save.result (λ action. HearsAs k (able_in k c.args.able) y.processes c.args.from (number_for y.inst c.args.ask.now.inst) c.args.ask.now.label (marks_in k y) (process_of y) c.ask_to_save.new.self.process action))
    (sym c.in-Checkpoint.is) (c.ask_to_save.ensures.hears y h)

pub returns-in-Rollback-clause-hears : goal.returns-in-Rollback-clause-hears
returns-in-Rollback-clause-hears c = λ y h.
    subst (λ (k : Kind). IfOk c.ask_to_roll.result (λ action. HearsAs k (able_in k c.args.able) y.processes c.args.from (number_for y.inst c.args.ask.now.inst) c.args.ask.now.label (marks_in k y) (process_of y) c.ask_to_roll.new.self.process action))
    (sym c.in-Rollback.is) (c.ask_to_roll.ensures.hears y h)
