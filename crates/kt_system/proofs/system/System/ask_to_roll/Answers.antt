use Rattle.std.proofs.Common.{refl, subst, sym}
use Rattle.std.proofs.Common.{ℕ, true}
use Rattle.std.proofs.lemmas.Result.{IfOk-weaker}
use Rattle.kt_base.specs.declared.words.Kind.TheVariants as kind
use Rattle.kt_process.specs.ProcessStates.{ProcessState}
use Rattle.kt_process.specs.Turns.{IsHeard}
use Rattle.kt_process.specs.Shown.{HearsAs, no_mark}
use Rattle.kt_system.proofs.Showing.{is_turned, stood, placed, in_system, sized}
use Rattle.std.proofs.Common.{refl}
use Rattle.std.proofs.lemmas.Result.{IfOk-weaker}
use Rattle.kt_system.proofs.system.System.ask_to_roll.Goals as goal

pub returns-clause-hears : goal.returns-clause-hears
returns-clause-hears c = IfOk-weaker c.hear_ask_to_roll.result _ _ (λ action h.
    in_system (λ x y. IsHeard kind.Rollback true c.args.from c.args.inst c.args.label x y action) _ _ _ c.args.p c.index.result c.index_mut.result.now c.hear_ask_to_roll.new.self c.self.view_is c.self.invariant c.requires.p c.index.ensures.value c.index_mut.ensures.value refl h) c.hear_ask_to_roll.ensures.hears

pub returns-clause-turned : goal.returns-clause-turned
returns-clause-turned c = is_turned _ _ _ c.args.p c.index.result c.hear_ask_to_roll.new.self c.self.view_is c.index.ensures.value refl refl refl refl refl refl refl refl

pub returns-clause-shows : goal.returns-clause-shows
returns-clause-shows c = IfOk-weaker c.hear_ask_to_roll.result _ _ (λ action s. λ v h.
    subst (λ (x : ProcessState). HearsAs kind.Rollback true v.processes c.args.from c.args.inst c.args.label no_mark (v.states c.args.p) x action) (sym (placed _ _ _ c.args.p c.index.result c.hear_ask_to_roll.new.self c.self.view_is c.self.invariant c.requires.p c.index.ensures.value refl))
    (subst (λ (n : ℕ). HearsAs kind.Rollback true n c.args.from c.args.inst c.args.label no_mark (v.states c.args.p) c.hear_ask_to_roll.new.self action) (sized _ _ c.args.p c.index.result c.index_mut.result.now v c.self.view_is c.self.invariant c.requires.p c.index.ensures.value c.index_mut.ensures.value h)
    (s (v.states c.args.p) (stood _ _ c.args.p c.index.result c.index_mut.result.now v c.self.view_is c.self.invariant c.requires.p c.index.ensures.value c.index_mut.ensures.value h)))) c.hear_ask_to_roll.ensures.shows
