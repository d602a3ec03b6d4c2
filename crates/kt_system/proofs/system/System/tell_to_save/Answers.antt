use Rattle.std.proofs.Common.{refl, subst, sym}
use Rattle.std.proofs.Common.{ℕ}
use Rattle.std.proofs.lemmas.Result.{IfOk-weaker}
use Rattle.kt_base.specs.declared.words.Kind.TheVariants as kind
use Rattle.kt_process.specs.ProcessStates.{ProcessState}
use Rattle.kt_process.specs.Turns.{IsBegin}
use Rattle.kt_process.specs.Shown.{BeginsAs, mark_of}
use Rattle.kt_system.proofs.Showing.{is_turned, stood, placed, in_system, sized}
use Rattle.std.proofs.Common.{refl}
use Rattle.std.proofs.lemmas.Result.{IfOk-weaker}
use Rattle.kt_system.proofs.system.System.tell_to_save.Goals as goal

pub returns-clause-begins : goal.returns-clause-begins
returns-clause-begins c = IfOk-weaker c.begin_checkpoint.result _ _ (λ action h.
    in_system (λ x y. IsBegin kind.Checkpoint c.args.inst x y action) _ _ _ c.args.p c.index.result c.index_mut.result.now c.begin_checkpoint.new.self c.self.view_is c.self.invariant c.requires.p c.index.ensures.value c.index_mut.ensures.value refl h) c.begin_checkpoint.ensures.begins

pub returns-clause-turned : goal.returns-clause-turned
returns-clause-turned c = is_turned _ _ _ c.args.p c.index.result c.begin_checkpoint.new.self c.self.view_is c.index.ensures.value refl refl refl refl refl refl refl refl

pub returns-clause-shows : goal.returns-clause-shows
returns-clause-shows c = IfOk-weaker c.begin_checkpoint.result _ _ (λ action s. λ v h.
    subst (λ (x : ProcessState). BeginsAs kind.Checkpoint c.args.able v.processes c.args.inst (mark_of c.args.marks.items) (v.states c.args.p) x action) (sym (placed _ _ _ c.args.p c.index.result c.begin_checkpoint.new.self c.self.view_is c.self.invariant c.requires.p c.index.ensures.value refl))
    (subst (λ (n : ℕ). BeginsAs kind.Checkpoint c.args.able n c.args.inst (mark_of c.args.marks.items) (v.states c.args.p) c.begin_checkpoint.new.self action) (sized _ _ c.args.p c.index.result c.index_mut.result.now v c.self.view_is c.self.invariant c.requires.p c.index.ensures.value c.index_mut.ensures.value h)
    (s (v.states c.args.p) (stood _ _ c.args.p c.index.result c.index_mut.result.now v c.self.view_is c.self.invariant c.requires.p c.index.ensures.value c.index_mut.ensures.value h)))) c.begin_checkpoint.ensures.shows
