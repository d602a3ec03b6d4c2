use Rattle.std.proofs.Common.{refl, subst, sym, ◌∙◌}
use Rattle.std.proofs.Common.{ℕ}
use Rattle.std.proofs.lemmas.Result.{IfOk-weaker}
use Rattle.kt_base.specs.declared.words.Kind.TheVariants as kind
use Rattle.kt_process.specs.ProcessStates.{ProcessState}
use Rattle.kt_process.specs.Shown.{HearsAs, mark_of}
use Rattle.kt_system.proofs.Showing.{is_turned, stood, placed, in_system, sized}
use Rattle.std.proofs.Common.{refl, sym, ap, ◌∙◌}
use Rattle.std.proofs.lemmas.Result.{IfOk-weaker}
use Rattle.kt_base.specs.declared.words.Kind.TheVariants as kind
use Rattle.kt_process.specs.Turns.{joins_by, IsHeard}
use Rattle.kt_system.proofs.Turns.{state_at, tables_at}
use Rattle.kt_system.proofs.system.System.ask_to_save.Goals as goal

pub returns-clause-hears : goal.returns-clause-hears
returns-clause-hears c = IfOk-weaker c.hear_ask_to_save.result _ _ (λ action h.
    in_system (λ x y. IsHeard kind.Checkpoint c.args.able c.args.from c.args.inst c.args.label x y action) _ _ _ c.args.p c.index.result c.index_mut.result.now c.hear_ask_to_save.new.self c.self.view_is c.self.invariant c.requires.p c.index.ensures.value c.index_mut.ensures.value refl h) c.hear_ask_to_save.ensures.hears

pub hear_ask_to_save-requires-clause-marks : goal.hear_ask_to_save-requires-clause-marks
hear_ask_to_save-requires-clause-marks c e =
    let was = state_at _ _ c.args.p c.index.result c.index_mut.result.now c.self.view_is c.self.invariant c.requires.p c.index.ensures.value c.index_mut.ensures.value in
    let joins = ap (λ (x : ProcessState). joins_by x kind.Checkpoint c.args.able c.args.from c.args.label) (sym was) ∙ e in
    c.requires.marks joins ∙ (sym (tables_at _ _ c.args.p c.self.view_is c.self.invariant c.requires.p) ∙ ap (λ (x : ProcessState). x.tables.processes) (sym was))

pub returns-clause-turned : goal.returns-clause-turned
returns-clause-turned c = is_turned _ _ _ c.args.p c.index.result c.hear_ask_to_save.new.self c.self.view_is c.index.ensures.value refl refl refl refl refl refl refl refl

pub returns-clause-shows : goal.returns-clause-shows
returns-clause-shows c = IfOk-weaker c.hear_ask_to_save.result _ _ (λ action s. λ v h.
    subst (λ (x : ProcessState). HearsAs kind.Checkpoint c.args.able v.processes c.args.from c.args.inst c.args.label (mark_of c.args.marks.items) (v.states c.args.p) x action) (sym (placed _ _ _ c.args.p c.index.result c.hear_ask_to_save.new.self c.self.view_is c.self.invariant c.requires.p c.index.ensures.value refl))
    (subst (λ (n : ℕ). HearsAs kind.Checkpoint c.args.able n c.args.from c.args.inst c.args.label (mark_of c.args.marks.items) (v.states c.args.p) c.hear_ask_to_save.new.self action) (sized _ _ c.args.p c.index.result c.index_mut.result.now v c.self.view_is c.self.invariant c.requires.p c.index.ensures.value c.index_mut.ensures.value h)
    (s (v.states c.args.p) (stood _ _ c.args.p c.index.result c.index_mut.result.now v c.self.view_is c.self.invariant c.requires.p c.index.ensures.value c.index_mut.ensures.value h)))) c.hear_ask_to_save.ensures.shows
