use Rattle.std.proofs.Common.{rules, ◌≡◌, ◌∙◌, [], true, false, arith, refl, sym, subst}
use Rattle.std.specs.Prelude.{Option, Result, Err, IfErr, IfSome, IfNone, slice_index_or}
use Rattle.kt_core.specs.Worlds.{can_make}
use Rattle.kt_core.specs.declared.faults.StepFault.TheVariants.{NotEnabled}
use Rattle.kt_object.specs.Holdings.{content}
use Rattle.kt_plan.specs.Limits.{Planned}
use Rattle.kt_plan.specs.declared.steps.Step.{Step}
use Rattle.kt_run.specs.Objects.{first_of}
use Rattle.kt_run.specs.Orders.{generator_next, generator_of}
use Rattle.kt_run.specs.Rejections.{objects_held, HaveSpares}
use Rattle.kt_run.specs.Runs.{told_and_held}
use Rattle.kt_run.proofs.Hindering.{not_so_refused}
use Rattle.kt_run.proofs.Ordering.{so_far_start, so_far_more, so_far_few, so_far_next, so_far_rest, refused_now, stopped_now}
use Rattle.kt_run.proofs.Rejecting.{no_more_then, rejected_of}
use Rattle.kt_run.proofs.Spares.{left_then}
use Rattle.kt_run.proofs.run_state.RunState.make_all.Goals as goal

pub loop-number-init : goal.loop-number-init
loop-number-init g c =
    let begun = c.in_ok-make_given.ensures in
    record {
      plan = begun.plan;
      hindrance = begun.hindrance;
      count = begun.count;
      spares = begun.spares;
      rejects = begun.rejects;
      per_process = begun.per_process;
      goes = λ cast due. so_far_start c.laws_of_runs.ensures c.args.self.now.world.agenda.plan cast c.args.steps.now (generator_of c.args.order) c.args.keep c.generator-generator.result c.in_ok-made.made.items c.make_given.new.self.done c.make_given.new.self.world (told_and_held c.make_given.new.self.journals c.make_given.new.self.objects.items (λ b. content ((goal.Recoverable-dyn g (b.vtable, b.value)).kind_of b.value) ((goal.Recoverable-dyn g (b.vtable, b.value)).value_of b.value))) c.generator-generator.ensures (begun.begun cast due)
          c.in_ok-made.ensures.ok begun.done;
    }

pub make-requires-clause-enabled : goal.make-requires-clause-enabled
make-requires-clause-enabled g c = subst (λ (o : Option Step). IfSome o (λ step. can_make c.loop-number.self.world step ≡ true)) c.in-Some.is c.step_in_order-found.ensures.enabled

pub make-requires-clause-few : goal.make-requires-clause-few
make-requires-clause-few g c =
    let due = c.requires.due in
    let few = (so_far_few c.laws_of_runs.ensures c.args.self.now.world.agenda.plan due.0 c.args.steps.now (generator_of c.args.order) c.args.keep c.loop-number.generator c.loop-number.made.items c.loop-number.self.done c.loop-number._number c.loop-number.self.world (told_and_held c.loop-number.self.journals c.loop-number.self.objects.items (λ b. content ((goal.Recoverable-dyn g (b.vtable, b.value)).kind_of b.value) ((goal.Recoverable-dyn g (b.vtable, b.value)).value_of b.value))) c.loop-number.invariant.plan (c.loop-number.invariant.goes due.0 due.1)).0 in
    omega (arith, few)

pub unreachable-requires : goal.unreachable-requires
unreachable-requires g c =
    let due = c.requires.due in
    let few = (so_far_few c.laws_of_runs.ensures c.args.self.now.world.agenda.plan due.0 c.args.steps.now (generator_of c.args.order) c.args.keep c.loop-number.generator c.loop-number.made.items c.loop-number.self.done c.loop-number._number c.loop-number.self.world (told_and_held c.loop-number.self.journals c.loop-number.self.objects.items (λ b. content ((goal.Recoverable-dyn g (b.vtable, b.value)).kind_of b.value) ((goal.Recoverable-dyn g (b.vtable, b.value)).value_of b.value))) c.loop-number.invariant.plan (c.loop-number.invariant.goes due.0 due.1)).1 in
    let over = c.loop-number-test.false in
    omega (arith, few, over)

pub loop-number-preserved : goal.loop-number-preserved
loop-number-preserved g c = record {
  plan = c.in_ok-make.ensures.plan ∙ c.loop-number.invariant.plan;
  hindrance = c.in_ok-make.ensures.hindrance ∙ c.loop-number.invariant.hindrance;
  count = c.in_ok-make.ensures.leads.2.count ∙ c.loop-number.invariant.count;
  spares = left_then (λ h. h.spares.items) (λ h. h.spares.items) c.args.self.now.objects.items c.loop-number.self.objects.items c.make.new.self.objects.items c.loop-number.invariant.spares c.in_ok-make.ensures.spares;
  rejects = no_more_then (λ b saved. (goal.Recoverable-dyn g (b.vtable, b.value)).may_reject b.value saved) (objects_held c.args.self.now.objects.items) (objects_held c.loop-number.self.objects.items) (objects_held c.make.new.self.objects.items) c.loop-number.invariant.rejects c.in_ok-make.ensures.rejects;
  per_process = c.in_ok-make.ensures.per_process;
  goes = λ cast due. let goes = c.loop-number.invariant.goes cast due in
      so_far_more c.laws_of_runs.ensures c.args.self.now.world.agenda.plan cast c.args.steps.now (generator_of c.args.order) c.args.keep c.loop-number.generator c.step_in_order-found.new.generator c.loop-number.made.items c.note.new.made.items c.loop-number.self.done c.make.new.self.done c.loop-number._number c.in-Some.step c.loop-number.self.world c.make.new.self.world (told_and_held c.loop-number.self.journals c.loop-number.self.objects.items (λ b. content ((goal.Recoverable-dyn g (b.vtable, b.value)).kind_of b.value) ((goal.Recoverable-dyn g (b.vtable, b.value)).value_of b.value))) (told_and_held c.make.new.self.journals c.make.new.self.objects.items (λ b. content ((goal.Recoverable-dyn g (b.vtable, b.value)).kind_of b.value) ((goal.Recoverable-dyn g (b.vtable, b.value)).value_of b.value)))
      c.loop-number.invariant.plan goes c.in_ok-make.ensures.leads (sym c.in-Some.is ∙ c.step_in_order-found.ensures.step 0 goes.goes.run.now goes.goes.run.shown)
      (subst (λ (o : Option Step). IfSome o (λ _. c.step_in_order-found.new.generator ≡ generator_next c.loop-number.self.world.agenda.plan goes.goes.run.now c.loop-number.generator)) c.in-Some.is (c.step_in_order-found.ensures.generator 0 goes.goes.run.now goes.goes.run.shown))
      c.in_ok-note.ensures.ok c.in_ok-make.ensures.done;
}

pub returns-in_default-clause-rests : goal.returns-in_default-clause-rests
returns-in_default-clause-rests g c = λ cast due.
    so_far_rest c.laws_of_runs.ensures c.args.self.now.world.agenda.plan cast c.args.steps.now (generator_of c.args.order) c.args.keep c.runs_of_worlds.ensures.enabled c.loop-number.generator c.loop-number.made.items c.loop-number.self.done c.loop-number._number c.loop-number.self.world (told_and_held c.loop-number.self.journals c.loop-number.self.objects.items (λ b. content ((goal.Recoverable-dyn g (b.vtable, b.value)).kind_of b.value) ((goal.Recoverable-dyn g (b.vtable, b.value)).value_of b.value))) c.loop-number.invariant.plan (c.loop-number.invariant.goes cast due)
    (subst (λ (o : Option Step). IfNone o ((step : Step) → can_make c.loop-number.self.world step ≡ false)) c.in_default.is c.step_in_order-found.ensures.none)

if_err : {T E : Type 0} (r : Result T E) (P : E → Type 0) (e : E) → r ≡ Err e → P e → IfErr r P
if_err r P e is p = rw is p

pub returns-in_err-make_given-clause-untold : goal.returns-in_err-make_given-clause-untold
returns-in_err-make_given-clause-untold g c = λ none. if_err c.from_residual.result _ c.in_err-make_given.field-0.0 (search rules) (c.in_err-make_given.ensures.untold none)

pub returns-in_err-make_given-clause-refused : goal.returns-in_err-make_given-clause-refused
returns-in_err-make_given-clause-refused g c = λ cast due. if_err c.from_residual.result _ c.in_err-make_given.field-0.0 (search rules) (c.in_err-make_given.ensures.refused cast (generator_of c.args.order) due)

pub returns-in_err-make_given-clause-hindered : goal.returns-in_err-make_given-clause-hindered
returns-in_err-make_given-clause-hindered g c = λ cast due. if_err c.from_residual.result _ c.in_err-make_given.field-0.0 (search rules) (c.in_err-make_given.ensures.hindered cast due)

pub returns-in_err-make_given-clause-named : goal.returns-in_err-make_given-clause-named
returns-in_err-make_given-clause-named g c = λ cast due. if_err c.from_residual.result _ c.in_err-make_given.field-0.0 (search rules) (c.in_err-make_given.ensures.named cast (generator_of c.args.order) due)

pub returns-in_err-make_given-clause-object : goal.returns-in_err-make_given-clause-object
returns-in_err-make_given-clause-object g c = λ cast due spares. if_err c.from_residual.result _ c.in_err-make_given.field-0.0 (search rules) (c.in_err-make_given.ensures.object cast due spares)

pub returns-in_err-make-clause-untold : goal.returns-in_err-make-clause-untold
returns-in_err-make-clause-untold g c = λ none. if_err c.from_residual-in_err-make.result _ c.in_err-make.field-0.0 (search rules) (c.in_err-make.ensures.untold (c.loop-number.invariant.count ∙ none))

pub returns-in_err-make-clause-refused : goal.returns-in_err-make-clause-refused
returns-in_err-make-clause-refused g c = λ cast due. if_err c.from_residual-in_err-make.result _ c.in_err-make.field-0.0 (search rules)
    (λ done why e.
    let r = c.in_err-make.ensures.refused done why e in
    let goes = c.loop-number.invariant.goes cast due in
    refused_now c.args.self.now.world.agenda.plan cast c.args.steps.now (generator_of c.args.order) done why c.loop-number.self.world c.in-Some.step
    (so_far_next c.laws_of_runs.ensures c.args.self.now.world.agenda.plan cast c.args.steps.now (generator_of c.args.order) c.args.keep c.loop-number.generator c.loop-number.made.items c.loop-number.self.done c.loop-number._number done c.loop-number.self.world (told_and_held c.loop-number.self.journals c.loop-number.self.objects.items (λ b. content ((goal.Recoverable-dyn g (b.vtable, b.value)).kind_of b.value) ((goal.Recoverable-dyn g (b.vtable, b.value)).value_of b.value))) c.in-Some.step c.loop-number.invariant.plan goes
    (sym c.in-Some.is ∙ c.step_in_order-found.ensures.step 0 goes.goes.run.now goes.goes.run.shown) r.0) r.1)

pub returns-in_err-make-clause-hindered : goal.returns-in_err-make-clause-hindered
returns-in_err-make-clause-hindered g c = λ cast due. if_err c.from_residual-in_err-make.result _ c.in_err-make.field-0.0 (search rules)
    (λ done e. absurd (not_so_refused c.loop-number.self.world c.in-Some.step (subst (λ (o : Option Step). IfSome o (λ step. can_make c.loop-number.self.world step ≡ true)) c.in-Some.is c.step_in_order-found.ensures.enabled)
    (c.in_err-make.ensures.refused done NotEnabled e).1))

pub returns-in_err-make-clause-named : goal.returns-in_err-make-clause-named
returns-in_err-make-clause-named g c = λ cast due. if_err c.from_residual-in_err-make.result _ c.in_err-make.field-0.0 (search rules)
    (λ p e.
    let goes = c.loop-number.invariant.goes cast due in
    stopped_now c.args.self.now.world.agenda.plan cast c.args.steps.now (generator_of c.args.order) c.loop-number.self.done p c.loop-number.self.world c.in-Some.step
    (so_far_next c.laws_of_runs.ensures c.args.self.now.world.agenda.plan cast c.args.steps.now (generator_of c.args.order) c.args.keep c.loop-number.generator c.loop-number.made.items c.loop-number.self.done c.loop-number._number c.loop-number.self.done c.loop-number.self.world (told_and_held c.loop-number.self.journals c.loop-number.self.objects.items (λ b. content ((goal.Recoverable-dyn g (b.vtable, b.value)).kind_of b.value) ((goal.Recoverable-dyn g (b.vtable, b.value)).value_of b.value))) c.in-Some.step c.loop-number.invariant.plan goes
    (sym c.in-Some.is ∙ c.step_in_order-found.ensures.step 0 goes.goes.run.now goes.goes.run.shown) refl) (c.in_err-make.ensures.named p e) (c.in_err-make.ensures.made p e))

pub returns-in_err-make-clause-object : goal.returns-in_err-make-clause-object
returns-in_err-make-clause-object g c = λ cast due spares. if_err c.from_residual-in_err-make.result _ c.in_err-make.field-0.0 (search rules)
    (λ p e.
    let run = (c.loop-number.invariant.goes cast due).goes.run in
    rejected_of (λ b saved. (goal.Recoverable-dyn g (b.vtable, b.value)).may_reject b.value saved) (first_of (slice_index_or cast p [])).kind p (objects_held c.args.self.now.objects.items) (objects_held c.loop-number.self.objects.items) c.loop-number.invariant.rejects
    (c.in_err-make.ensures.object cast 0 run.now run.shown (subst (λ (z : Planned). HaveSpares z cast) (sym c.loop-number.invariant.plan) spares) run.due p e))

pub returns-in_err-make_given-clause-unhindered : goal.returns-in_err-make_given-clause-unhindered
returns-in_err-make_given-clause-unhindered g c = λ none. if_err c.from_residual.result _ c.in_err-make_given.field-0.0 (search rules) (c.in_err-make_given.ensures.unhindered none)

pub returns-in_err-made-clause-unhindered : goal.returns-in_err-made-clause-unhindered
returns-in_err-made-clause-unhindered g c = λ none. if_err c.from_residual-in_err-made.result _ c.in_err-made.field-0.0 (search rules)
    (λ why e. let kept = c.in_ok-make_given.ensures.hindrance ∙ none in absurd (cc (kept, e)))

pub returns-in_err-note-clause-unhindered : goal.returns-in_err-note-clause-unhindered
returns-in_err-note-clause-unhindered g c = λ none. if_err c.from_residual-in_err-note.result _ c.in_err-note.field-0.0 (search rules)
    (λ why e. let kept = c.loop-number.invariant.hindrance ∙ none in absurd (cc (kept, e)))

pub returns-in_err-make-clause-unhindered : goal.returns-in_err-make-clause-unhindered
returns-in_err-make-clause-unhindered g c = λ none. if_err c.from_residual-in_err-make.result _ c.in_err-make.field-0.0 (search rules)
    (λ why e. let kept = c.in_err-make.ensures.hindrance ∙ (c.loop-number.invariant.hindrance ∙ none) in absurd (cc (kept, e)))
