use Rattle.std.proofs.Common.{◌≡◌, ◌∙◌, Some, sym, ap, subst}
use Rattle.std.specs.Prelude.{Option, IfSome}
use Rattle.kt_run.specs.Orders.{Generator, generator_next, step_in_order}
use Rattle.kt_run.proofs.Choosing.{some_any}
use Rattle.kt_run.proofs.orders.step_in_order.Goals as goal

pub returns-in-Some-clause-step : goal.returns-in-Some-clause-step
returns-in-Some-clause-step c = λ first v r.
    c.drawn_step.ensures.step first v r ∙ ap (λ (b : Option Generator). step_in_order c.args.world.now.agenda.plan v b) (sym c.in-Some.is)

pub returns-in-Some-clause-generator : goal.returns-in-Some-clause-generator
returns-in-Some-clause-generator c = λ first v r.
    subst (λ (b : Option Generator). IfSome c.drawn_step.result (λ _. Some c.drawn_step.new.generator ≡ generator_next c.args.world.now.agenda.plan v b)) (sym c.in-Some.is)
    (c.drawn_step.ensures.generator first v r)

pub returns-in-None-clause-step : goal.returns-in-None-clause-step
returns-in-None-clause-step c = λ first v r. c.default_step.ensures.in_runs first v r ∙ ap (λ (b : Option Generator). step_in_order c.args.world.now.agenda.plan v b) (sym c.in-None.is)

pub returns-in-None-clause-generator : goal.returns-in-None-clause-generator
returns-in-None-clause-generator c = λ first v r. some_any c.default_step.result (c.in-None.is ∙ ap (λ (b : Option Generator). generator_next c.args.world.now.agenda.plan v b) (sym c.in-None.is))
