use Rattle.std.proofs.Common.{refl, subst, sym}
use Rattle.std.proofs.Common.{ℕ, true}
use Rattle.std.proofs.lemmas.Result.{IfOk-weaker}
use Rattle.kt_base.specs.declared.words.Kind.TheVariants as kind
use Rattle.kt_process.specs.ProcessStates.{ProcessState}
use Rattle.kt_process.specs.Turns.{IsBegin}
use Rattle.kt_process.specs.Shown.{BeginsAs, no_mark}
use Rattle.kt_system.proofs.Showing.{is_turned, stood, placed, in_system, sized}
use Rattle.std.proofs.Common.{refl}
use Rattle.std.proofs.lemmas.Result.{IfOk-weaker}
use Rattle.kt_system.proofs.system.System.tell_to_roll.Goals as goal

pub returns-clause-begins : goal.returns-clause-begins
returns-clause-begins c = IfOk-weaker c.begin_rollback.result _ _ (λ action h.
    in_system (λ x y. IsBegin kind.Rollback c.args.inst x y action) _ _ _ c.args.p c.index.result c.index_mut.result.now c.begin_rollback.new.self c.self.view_is c.self.invariant c.requires c.index.ensures.value c.index_mut.ensures.value refl h) c.begin_rollback.ensures.begins

pub returns-clause-turned : goal.returns-clause-turned
returns-clause-turned c = is_turned _ _ _ c.args.p c.index.result c.begin_rollback.new.self c.self.view_is c.index.ensures.value refl refl refl refl refl refl refl refl

pub returns-clause-shows : goal.returns-clause-shows
returns-clause-shows c = IfOk-weaker c.begin_rollback.result _ _ (λ action s. λ v h.
    subst (λ (x : ProcessState). BeginsAs kind.Rollback true v.processes c.args.inst no_mark (v.states c.args.p) x action) (sym (placed _ _ _ c.args.p c.index.result c.begin_rollback.new.self c.self.view_is c.self.invariant c.requires c.index.ensures.value refl))
    (subst (λ (n : ℕ). BeginsAs kind.Rollback true n c.args.inst no_mark (v.states c.args.p) c.begin_rollback.new.self action) (sized _ _ c.args.p c.index.result c.index_mut.result.now v c.self.view_is c.self.invariant c.requires c.index.ensures.value c.index_mut.ensures.value h)
    (s (v.states c.args.p) (stood _ _ c.args.p c.index.result c.index_mut.result.now v c.self.view_is c.self.invariant c.requires c.index.ensures.value c.index_mut.ensures.value h)))) c.begin_rollback.ensures.shows
