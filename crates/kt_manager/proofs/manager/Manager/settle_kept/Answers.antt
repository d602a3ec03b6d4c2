use Rattle.std.proofs.Common.{rules, ◌≡◌, ◌∙◌, ℕ, true, false, sym, ap}
use Rattle.std.specs.Prelude.{Option}
use Rattle.kt_process.specs.Shown.{mark_of}
use Rattle.kt_process.specs.Turns.{noted_by}
use Rattle.kt_manager.specs.Inboxes.{kept_of, forgets}
use Rattle.kt_manager.proofs.Sides.{ready_is, noted_is, marks_are}
use Rattle.kt_manager.proofs.Processes.{shows_inside}
use Rattle.kt_manager.proofs.Lists.{closing_rollback, closing_checkpoint}
use Rattle.kt_manager.proofs.manager.Manager.settle_kept.Goals as goal

pub returns-then-is_ready-clause-settled : goal.returns-then-is_ready-clause-settled
returns-then-is_ready-clause-settled c = λ y h.
    let i = shows_inside _ _ y c.self.view_is h in
    let roll : y.part.is_rollback ≡ true = sym (ready_is _ _ i.process) ∙ (sym c.is_ready.ensures.ready ∙ c.if-is_ready.true) in
    let e = c.put_all_back.ensures.held y.part.noted (λ q label b s. let e : label ≡ noted_by c.self.inside.process.side q = search rules in e ∙ ap (λ (f : ℕ → Option ℕ). f q) (noted_is _ _ i.process)) in
    closing_rollback _ c.put_all_back.new.self y c.args.commit c.if-not-commit.false roll i.holds e c.put_all_back.ensures.kept

pub returns-then-marks-processes-clause-settled : goal.returns-then-marks-processes-clause-settled
returns-then-marks-processes-clause-settled c = λ y h.
    let i = shows_inside _ _ y c.self.view_is h in
    let free = sym c.is_ready.ensures.ready ∙ c.if-is_ready.false in
    let plain : y.part.is_rollback ≡ false = sym (ready_is _ _ i.process) ∙ free in
    let e = c.forget.ensures.kept ∙ ap (λ (f : ℕ → ℕ). forgets f (kept_of c.self.inside.inbox)) (ap mark_of c.marks-marks.ensures.marks ∙ marks_are _ _ i.process free) in
    closing_checkpoint _ c.forget.new.self y c.args.commit c.if-not-commit.false plain i.holds e c.forget.ensures.held
