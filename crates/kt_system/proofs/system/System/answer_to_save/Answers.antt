use Rattle.std.proofs.Common.{◌≡◌, ℕ, true, sym, subst, ◌∙◌}
use Rattle.std.specs.Prelude.{IfNone}
use Rattle.std.proofs.lemmas.Option.{IfSome_then}
use Rattle.kt_base.specs.declared.words.Kind.TheVariants as kind
use Rattle.kt_process.specs.ProcessStates.{ProcessState}
use Rattle.kt_process.specs.Turns.{joins_by}
use Rattle.kt_process.specs.Shown.{IsSeenAs, HearsAs}
use Rattle.kt_system.specs.Systems.{state_of}
use Rattle.kt_system.proofs.system.System.answer_to_save.Goals as goal

pub returns-clause-shows : goal.returns-clause-shows
returns-clause-shows c = IfSome_then c.answer_to_save.result c.answer_to_save.ensures.shows (λ action s. λ v marks h.
    let is = c.process.ensures.process in
    let size = c.process.ensures.tables ∙ h.processes in
    let seen = subst (λ (z : ProcessState). IsSeenAs z (v.states c.args.p)) (sym is) (h.states c.args.p c.requires.p) in
    subst (λ (n : ℕ). HearsAs kind.Checkpoint c.args.able n c.args.from c.args.inst c.args.label marks (v.states c.args.p) (state_of c.args.self.now c.args.p) action) size
    (subst (λ (z : ProcessState). HearsAs kind.Checkpoint c.args.able z.tables.processes c.args.from c.args.inst c.args.label marks (v.states c.args.p) z action) is (s (v.states c.args.p) marks seen)))

pub returns-clause-none : goal.returns-clause-none
returns-clause-none c = subst (λ (x : ProcessState). IfNone c.answer_to_save.result (joins_by x kind.Checkpoint c.args.able c.args.from c.args.label ≡ true)) c.process.ensures.process c.answer_to_save.ensures.none
