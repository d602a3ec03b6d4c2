use Rattle.std.proofs.Common.{◌≡◌, ◌<◌, ℕ, List, [], true, false, length, refl, arith, subst, sym, ◌∙◌}
use Rattle.std.specs.Prelude.{pos, Some, None, IfErr, OnOk, slice_index_or}
use Rattle.kt_core.specs.declared.faults.StepFault.{StepFault}
use Rattle.kt_core.specs.Shown.{Mirrors}
use Rattle.kt_core.specs.Worlds.{World, can_make, step_refusal}
use Rattle.kt_object.specs.Holdings.{Content, content}
use Rattle.kt_plan.specs.declared.steps.Give.{Give}
use Rattle.kt_plan.specs.declared.steps.Told.{Told}
use Rattle.kt_promises.specs.Progress.{Progress}
use Rattle.kt_promises.specs.Steps.{process_of_step}
use Rattle.kt_run.specs.Faults.{stopped_at}
use Rattle.kt_run.specs.Objects.{has_of, first_of, HoldDue}
use Rattle.kt_run.specs.Rejections.{MayReject, objects_held, HaveSpares}
use Rattle.kt_run.specs.Runs.{told_and_held, StepsTo}
use Rattle.kt_run.specs.declared.faults.RunFault.TheVariants as fault
use Rattle.kt_run.proofs.Quieting.{steps_quietly, mover_there}
use Rattle.kt_run.proofs.Spares.{left_same}
use Rattle.kt_run.proofs.run_state.RunState.make.Goals as goal

pub returns-then-made-clause-leads : goal.returns-then-made-clause-leads
returns-then-made-clause-leads g c =
    let helds = c.args.self.now.objects.items in
    let give : Give = record { able = false; body = pos 0 } in
    let none = c.in_ok-made.ensures.unkept c.if-made.true in
    let mover = mover_there c.args.self.now.world c.args.step c.requires.enabled in
    let per = c.requires.per_process in
    let there : process_of_step c.args.step < length helds = omega (arith, mover, per) in
    subst (λ (told : List (List Told)). StepsTo c.args.self.now.world (told_and_held told helds (λ b. content ((goal.Recoverable-dyn g (b.vtable, b.value)).kind_of b.value) ((goal.Recoverable-dyn g (b.vtable, b.value)).value_of b.value))) c.args.step c.make_quietly.new.world (told_and_held told helds (λ b. content ((goal.Recoverable-dyn g (b.vtable, b.value)).kind_of b.value) ((goal.Recoverable-dyn g (b.vtable, b.value)).value_of b.value)))) (sym none)
    (steps_quietly c.laws_of_runs.ensures helds (λ b. content ((goal.Recoverable-dyn g (b.vtable, b.value)).kind_of b.value) ((goal.Recoverable-dyn g (b.vtable, b.value)).value_of b.value)) c.args.self.now.world c.make_quietly.new.world c.args.step give there
    (c.in_ok-made.ensures.look c.if-made.true) (c.in_ok-made.ensures.leads c.if-made.true give refl))

pub returns-then-made-clause-spares : goal.returns-then-made-clause-spares
returns-then-made-clause-spares g c = left_same (λ h. h.spares.items) c.args.self.now.objects.items

pub returns-then-made-clause-rejects : goal.returns-then-made-clause-rejects
returns-then-made-clause-rejects g c = λ p saved any. any

pub make_with_object-requires-clause-enabled : goal.make_with_object-requires-clause-enabled
make_with_object-requires-clause-enabled g c = subst (λ (w : World). can_make w c.args.step ≡ true) (sym (c.in_ok-made.ensures.left c.if-made.false)) c.requires.enabled

pub returns-clause-plan : goal.returns-clause-plan
returns-clause-plan g c = c.make_with_object.ensures.plan ∙ c.make_quietly.ensures.plan

pub returns-clause-refused : goal.returns-clause-refused
returns-clause-refused g c = subst (λ (w : World). IfErr c.make_with_object.result (λ why_not. (done : ℕ) (why : StepFault) → why_not ≡ fault.Step done why → (done ≡ c.args.self.now.done) × (step_refusal w c.args.step ≡ Some why)))
    (c.in_ok-made.ensures.left c.if-made.false) c.make_with_object.ensures.refused

pub returns-clause-made : goal.returns-clause-made
returns-clause-made g c = subst (λ (w : World). IfErr c.make_with_object.result (λ why_not. (p : ℕ) → stopped_at why_not ≡ Some p → step_refusal w c.args.step ≡ None))
    (c.in_ok-made.ensures.left c.if-made.false) c.make_with_object.ensures.made

pub returns-clause-object : goal.returns-clause-object
returns-clause-object g c = subst (λ (w : World). (cast : List (List Content)) (first : ℕ) (v : Progress) → Mirrors w.agenda w.system first v → HaveSpares w.agenda.plan cast
    → HoldDue cast v.now.log (has_of c.args.self.now.objects.items (λ b. content ((goal.Recoverable-dyn g (b.vtable, b.value)).kind_of b.value) ((goal.Recoverable-dyn g (b.vtable, b.value)).value_of b.value)))
    → IfErr c.make_with_object.result (λ why_not. (p : ℕ) → why_not ≡ fault.Object p → MayReject (λ b saved. (goal.Recoverable-dyn g (b.vtable, b.value)).may_reject b.value saved) (first_of (slice_index_or cast p [])).kind (slice_index_or (objects_held c.args.self.now.objects.items) p [])))
    (c.in_ok-made.ensures.left c.if-made.false) c.make_with_object.ensures.object

pub returns-clause-leads : goal.returns-clause-leads
returns-clause-leads g c = subst (λ (w : World). OnOk c.make_with_object.result (StepsTo w
    (told_and_held c.args.self.now.journals c.args.self.now.objects.items (λ b. content ((goal.Recoverable-dyn g (b.vtable, b.value)).kind_of b.value) ((goal.Recoverable-dyn g (b.vtable, b.value)).value_of b.value))) c.args.step
    c.make_with_object.new.self.world
    (told_and_held c.make_with_object.new.self.journals c.make_with_object.new.self.objects.items (λ b. content ((goal.Recoverable-dyn g (b.vtable, b.value)).kind_of b.value) ((goal.Recoverable-dyn g (b.vtable, b.value)).value_of b.value)))))
    (c.in_ok-made.ensures.left c.if-made.false) c.make_with_object.ensures.leads
