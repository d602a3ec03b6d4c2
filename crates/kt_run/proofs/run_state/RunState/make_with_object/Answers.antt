use Rattle.std.proofs.Common.{◌∙◌, arith, length, refl, sym, subst}
use Rattle.std.specs.Prelude.{is_some}
use Rattle.std.proofs.lemmas.Option.{slice_get_read}
use Rattle.kt_object.specs.Holdings.{content}
use Rattle.kt_plan.specs.declared.steps.Step.{Step}
use Rattle.kt_run.specs.Runs.{Tells}
use Rattle.kt_run.proofs.Acting.{held_to}
use Rattle.kt_run.proofs.Rejecting.{act_refused, no_more_set}
use Rattle.kt_run.proofs.Spares.{left_set}
use Rattle.kt_run.proofs.run_state.RunState.make_with_object.Goals as goal

pub returns-in-Ok-clause-leads : goal.returns-in-Ok-clause-leads
returns-in-Ok-clause-leads g c =
    let helds = c.args.self.now.objects.items in
    let old = c.in-Some.held.now in
    let there = slice_get_read helds (length helds) c.index.result old refl (let n = c.in-Some.ensures.variant.0 refl in omega (arith, n)) c.in-Some.ensures.value in
    held_to c.laws_of_runs.ensures helds (λ b. content ((goal.Recoverable-dyn g (b.vtable, b.value)).kind_of b.value) ((goal.Recoverable-dyn g (b.vtable, b.value)).value_of b.value)) c.index.result old c.obey.new.self there c.args.self.now.world c.step_once.new.world c.args.self.now.journals c.step_once.new.journals
    c.args.step (c.index.ensures.value ∙ c.process_of-p.ensures) c.ask-answer.result.give c.step_once.new.acts c.in_ok-ready.ready.look c.in_ok-ready.ensures.look
    c.ask-answer.ensures.body c.in-Ok.ensures.does c.in-Ok.ensures.spares (subst (λ (x : Step). Tells c.args.self.now.world c.args.self.now.journals x c.ask-answer.result.give c.step_once.new.world c.step_once.new.journals c.step_once.new.acts) c.in_ok-ready.ensures.step c.in_ok-step_once.ensures.leads)

pub returns-in-Ok-clause-spares : goal.returns-in-Ok-clause-spares
returns-in-Ok-clause-spares g c =
    let helds = c.args.self.now.objects.items in
    let old = c.in-Some.held.now in
    let there = slice_get_read helds (length helds) c.index.result old refl (let n = c.in-Some.ensures.variant.0 refl in omega (arith, n)) c.in-Some.ensures.value in
    left_set (λ h. h.spares.items) helds c.index.result old c.obey.new.self there (_, c.in-Ok.ensures.spares)

pub returns-in-Err-clause-made : goal.returns-in-Err-clause-made
returns-in-Err-clause-made g c = λ p e. c.in_ok-ready.ensures.allowed

pub returns-in-Ok-clause-rejects : goal.returns-in-Ok-clause-rejects
returns-in-Ok-clause-rejects g c =
    let helds = c.args.self.now.objects.items in
    let old = c.in-Some.held.now in
    let there = slice_get_read helds (length helds) c.index.result old refl (let n = c.in-Some.ensures.variant.0 refl in omega (arith, n)) c.in-Some.ensures.value in
    no_more_set (λ b saved. (goal.Recoverable-dyn g (b.vtable, b.value)).may_reject b.value saved) helds c.index.result old c.obey.new.self there c.in-Ok.ensures.rejects

pub returns-in-Err-clause-object : goal.returns-in-Err-clause-object
returns-in-Err-clause-object g c = λ cast first v shown spares due p e.
    let helds = c.args.self.now.objects.items in
    let old = c.in-Some.held.now in
    let there = slice_get_read helds (length helds) c.index.result old refl (let n = c.in-Some.ensures.variant.0 refl in omega (arith, n)) c.in-Some.ensures.value in
    act_refused c.laws_of_runs.ensures helds (λ b. content ((goal.Recoverable-dyn g (b.vtable, b.value)).kind_of b.value) ((goal.Recoverable-dyn g (b.vtable, b.value)).value_of b.value)) c.index.result old there c.args.self.now.world c.step_once.new.world c.args.self.now.journals c.step_once.new.journals
    c.args.step (c.index.ensures.value ∙ c.process_of-p.ensures) c.ask-answer.result.give c.step_once.new.acts (subst (λ (x : Step). Tells c.args.self.now.world c.args.self.now.journals x c.ask-answer.result.give c.step_once.new.world c.step_once.new.journals c.step_once.new.acts) c.in_ok-ready.ensures.step c.in_ok-step_once.ensures.leads) first v shown cast spares due
    (λ b saved. (goal.Recoverable-dyn g (b.vtable, b.value)).may_reject b.value saved) (is_some c.ask-answer.result.saved) c.in-Err.fault c.process_of-p.result p c.ask-answer.ensures.able (sym c.index.ensures.value)
    (λ unfit. c.in-Err.ensures.unfit (rw unfit refl)) (λ form. c.in-Err.ensures.form (rw form refl)) (sym c.of_act.ensures ∙ e)
