use Rattle.std.specs.Prelude.{Result, Err, IfErr, slice_index_or}
use Rattle.std.proofs.Common.{rules, ◌≡◌, ℕ, false, Some, arith, List, [], take, refl, sym, subst, ◌∙◌}
use Rattle.kt_core.specs.Worlds.{World, can_make, step_refusal}
use Rattle.kt_core.specs.declared.faults.StepFault.{StepFault}
use Rattle.kt_core.specs.declared.faults.StepFault.TheVariants.{NotEnabled}
use Rattle.kt_plan.specs.declared.steps.Step.{Step}
use Rattle.kt_object.specs.Holdings.{content}
use Rattle.kt_run.specs.Runs.{told_and_held, BeginsRun}
use Rattle.kt_run.proofs.Spares.{left_same, left_then}
use Rattle.kt_plan.specs.Limits.{Planned}
use Rattle.kt_run.specs.Objects.{first_of}
use Rattle.kt_run.specs.Rejections.{objects_held, HaveSpares}
use Rattle.kt_run.proofs.Rejecting.{no_more_then, rejected_of}
use Rattle.kt_run.specs.Refused.{IsGivenNext}
use Rattle.kt_run.proofs.Hindering.{not_so_refused, given_hindered}
use Rattle.kt_run.proofs.Ordering.{next_given, refused_now, stopped_now}
use Rattle.kt_run.proofs.Running.{begins_start, begins_more, take_next, given_next}
use Rattle.kt_run.proofs.run_state.RunState.make_given.Goals as goal

pub loop-step-init : goal.loop-step-init
loop-step-init g c = record { plan = refl; hindrance = refl; count = refl; spares = left_same (λ h. h.spares.items) c.args.self.now.objects.items; rejects = λ p saved any. any; done = c.requires.none; per_process = c.requires.per_process; begun = λ cast due. begins_start c.args.self.now.world.agenda.plan cast c.args.self.now.world (told_and_held c.args.self.now.journals c.args.self.now.objects.items (λ b. content ((goal.Recoverable-dyn g (b.vtable, b.value)).kind_of b.value) ((goal.Recoverable-dyn g (b.vtable, b.value)).value_of b.value))) c.requires.starts c.requires.journals due }

pub loop-step-preserved : goal.loop-step-preserved
loop-step-preserved g c = record {
  plan = c.in_ok-make.ensures.plan ∙ c.loop-step.invariant.plan;
  hindrance = c.in_ok-make.ensures.hindrance ∙ c.loop-step.invariant.hindrance;
  count = c.in_ok-make.ensures.leads.2.count ∙ c.loop-step.invariant.count;
  spares = left_then (λ h. h.spares.items) (λ h. h.spares.items) c.args.self.now.objects.items c.loop-step.self.objects.items c.make.new.self.objects.items c.loop-step.invariant.spares c.in_ok-make.ensures.spares;
  rejects = no_more_then (λ b saved. (goal.Recoverable-dyn g (b.vtable, b.value)).may_reject b.value saved) (objects_held c.args.self.now.objects.items) (objects_held c.loop-step.self.objects.items) (objects_held c.make.new.self.objects.items) c.loop-step.invariant.rejects c.in_ok-make.ensures.rejects;
  done = let d = c.in_ok-make.ensures.done in let e = c.loop-step.invariant.done in omega (arith, d, e);
  per_process = c.in_ok-make.ensures.per_process;
  begun = λ cast due. subst (λ (l : List Step). BeginsRun c.args.self.now.world.agenda.plan cast l c.make.new.self.world (told_and_held c.make.new.self.journals c.make.new.self.objects.items (λ b. content ((goal.Recoverable-dyn g (b.vtable, b.value)).kind_of b.value) ((goal.Recoverable-dyn g (b.vtable, b.value)).value_of b.value)))) (sym (take_next c.args.steps.now c.loop-step.step-index c.step-item.result (search rules) c.step-item.is))
      (begins_more c.laws_of_runs.ensures c.args.self.now.world.agenda.plan cast (take c.loop-step.step-index c.args.steps.now) c.step-item.result c.loop-step.self.world c.make.new.self.world (told_and_held c.loop-step.self.journals c.loop-step.self.objects.items (λ b. content ((goal.Recoverable-dyn g (b.vtable, b.value)).kind_of b.value) ((goal.Recoverable-dyn g (b.vtable, b.value)).value_of b.value))) (told_and_held c.make.new.self.journals c.make.new.self.objects.items (λ b. content ((goal.Recoverable-dyn g (b.vtable, b.value)).kind_of b.value) ((goal.Recoverable-dyn g (b.vtable, b.value)).value_of b.value))) c.loop-step.invariant.plan (c.loop-step.invariant.begun cast due) c.in_ok-make.ensures.leads);
}

if_err : {T E : Type 0} (r : Result T E) (P : E → Type 0) (e : E) → r ≡ Err e → P e → IfErr r P
if_err r P e is p = rw is p

pub returns-in_err-make-clause-refused : goal.returns-in_err-make-clause-refused
returns-in_err-make-clause-refused g c = λ cast was due. if_err c.from_residual.result _ c.in_err-make.field-0.0 (search rules)
    (λ done why e.
    let r = c.in_err-make.ensures.refused done why e in
    refused_now c.args.self.now.world.agenda.plan cast c.args.steps.now was done why c.loop-step.self.world c.step-item.result
    (next_given c.args.self.now.world.agenda.plan cast c.args.steps.now was c.loop-step.step-index done c.loop-step.self.world c.step-item.result
    (given_next c.args.self.now.world.agenda.plan cast c.args.steps.now c.loop-step.step-index c.loop-step.self.world (told_and_held c.loop-step.self.journals c.loop-step.self.objects.items (λ b. content ((goal.Recoverable-dyn g (b.vtable, b.value)).kind_of b.value) ((goal.Recoverable-dyn g (b.vtable, b.value)).value_of b.value))) c.step-item.result (c.loop-step.invariant.begun cast due) (search rules) c.step-item.is) (r.0 ∙ c.loop-step.invariant.done)) r.1)

pub returns-in_err-make-clause-hindered : goal.returns-in_err-make-clause-hindered
returns-in_err-make-clause-hindered g c = λ cast due. if_err c.from_residual.result _ c.in_err-make.field-0.0 (search rules)
    (λ done e. absurd (not_so_refused c.loop-step.self.world c.step-item.result (search rules) (c.in_err-make.ensures.refused done NotEnabled e).1))

pub returns-in_err-make-clause-named : goal.returns-in_err-make-clause-named
returns-in_err-make-clause-named g c = λ cast was due. if_err c.from_residual.result _ c.in_err-make.field-0.0 (search rules)
    (λ p e. stopped_now c.args.self.now.world.agenda.plan cast c.args.steps.now was c.loop-step.step-index p c.loop-step.self.world c.step-item.result
    (next_given c.args.self.now.world.agenda.plan cast c.args.steps.now was c.loop-step.step-index c.loop-step.step-index c.loop-step.self.world c.step-item.result
    (given_next c.args.self.now.world.agenda.plan cast c.args.steps.now c.loop-step.step-index c.loop-step.self.world (told_and_held c.loop-step.self.journals c.loop-step.self.objects.items (λ b. content ((goal.Recoverable-dyn g (b.vtable, b.value)).kind_of b.value) ((goal.Recoverable-dyn g (b.vtable, b.value)).value_of b.value))) c.step-item.result (c.loop-step.invariant.begun cast due) (search rules) c.step-item.is) refl) (c.in_err-make.ensures.named p e) (c.in_err-make.ensures.made p e))

-- what is not enabled is refused as such
not_enabled : (w : World) (x : Step) → can_make w x ≡ false → step_refusal w x ≡ Some NotEnabled
not_enabled w x e = rw e refl

pub returns-then-not-enabled-clause-refused : goal.returns-then-not-enabled-clause-refused
returns-then-not-enabled-clause-refused g c = λ cast was due done why e.
    let count : c.loop-step.self.done ≡ done = cc e in
    let is : NotEnabled ≡ why = cc e in
    let off : can_make c.loop-step.self.world c.step-item.result ≡ false = search rules in
    refused_now c.args.self.now.world.agenda.plan cast c.args.steps.now was done why c.loop-step.self.world c.step-item.result
    (next_given c.args.self.now.world.agenda.plan cast c.args.steps.now was c.loop-step.step-index done c.loop-step.self.world c.step-item.result
    (given_next c.args.self.now.world.agenda.plan cast c.args.steps.now c.loop-step.step-index c.loop-step.self.world (told_and_held c.loop-step.self.journals c.loop-step.self.objects.items (λ b. content ((goal.Recoverable-dyn g (b.vtable, b.value)).kind_of b.value) ((goal.Recoverable-dyn g (b.vtable, b.value)).value_of b.value))) c.step-item.result (c.loop-step.invariant.begun cast due) (search rules) c.step-item.is) (sym count ∙ c.loop-step.invariant.done))
    (subst (λ (fault : StepFault). step_refusal c.loop-step.self.world c.step-item.result ≡ Some fault) is (not_enabled c.loop-step.self.world c.step-item.result off))

pub returns-then-not-enabled-clause-hindered : goal.returns-then-not-enabled-clause-hindered
returns-then-not-enabled-clause-hindered g c = λ cast due done e.
    let count : c.loop-step.self.done ≡ done = cc e in
    given_hindered c.args.self.now.world.agenda.plan cast c.args.steps.now done c.loop-step.self.world c.step-item.result
    (subst (λ (k : ℕ). IsGivenNext c.args.self.now.world.agenda.plan cast c.args.steps.now k c.loop-step.self.world c.step-item.result) (sym c.loop-step.invariant.done ∙ count)
    (given_next c.args.self.now.world.agenda.plan cast c.args.steps.now c.loop-step.step-index c.loop-step.self.world (told_and_held c.loop-step.self.journals c.loop-step.self.objects.items (λ b. content ((goal.Recoverable-dyn g (b.vtable, b.value)).kind_of b.value) ((goal.Recoverable-dyn g (b.vtable, b.value)).value_of b.value))) c.step-item.result (c.loop-step.invariant.begun cast due) (search rules) c.step-item.is))
    c.hindrance-self.result c.loop-step.invariant.plan c.hindrance-self.ensures.in_runs c.hindrance-self.ensures.none.0 (search rules)

pub returns-in_err-make-clause-object : goal.returns-in_err-make-clause-object
returns-in_err-make-clause-object g c = λ cast due spares. if_err c.from_residual.result _ c.in_err-make.field-0.0 (search rules)
    (λ p e.
    let b = c.loop-step.invariant.begun cast due in
    rejected_of (λ b saved. (goal.Recoverable-dyn g (b.vtable, b.value)).may_reject b.value saved) (first_of (slice_index_or cast p [])).kind p (objects_held c.args.self.now.objects.items) (objects_held c.loop-step.self.objects.items) c.loop-step.invariant.rejects
    (c.in_err-make.ensures.object cast 0 b.now b.shown (subst (λ (z : Planned). HaveSpares z cast) (sym c.loop-step.invariant.plan) spares) b.due p e))

pub returns-in_err-make-clause-untold : goal.returns-in_err-make-clause-untold
returns-in_err-make-clause-untold g c = λ none. if_err c.from_residual.result _ c.in_err-make.field-0.0 (search rules) (c.in_err-make.ensures.untold (c.loop-step.invariant.count ∙ none))

pub returns-in_err-make-clause-unhindered : goal.returns-in_err-make-clause-unhindered
returns-in_err-make-clause-unhindered g c = λ none. if_err c.from_residual.result _ c.in_err-make.field-0.0 (search rules)
    (λ why e. let kept = c.in_err-make.ensures.hindrance ∙ (c.loop-step.invariant.hindrance ∙ none) in absurd (cc (kept, e)))

pub returns-then-not-enabled-clause-unhindered : goal.returns-then-not-enabled-clause-unhindered
returns-then-not-enabled-clause-unhindered g c = λ none why e. (c.loop-step.self.done, refl)
