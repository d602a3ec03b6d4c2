use Rattle.std.proofs.Common.{◌∙◌, ℕ, Some, ap, arith}
use Rattle.std.specs.Prelude.{slice_get}
use Rattle.kt_core.specs.Choices.{choices, enabled_steps}
use Rattle.kt_run.specs.Orders.{Generator, draw_below}
use Rattle.kt_run.proofs.Choosing.{none_at, none_within, some_any}
use Rattle.kt_run.proofs.orders.drawn_step.Goals as goal

pub returns-then-count-eq0-clause-step : goal.returns-then-count-eq0-clause-step
returns-then-count-eq0-clause-step c = λ first v r.
    let all = c.count_enabled-count.ensures.in_runs first v r in
    let none = c.if-count-eq0.true in
    none_at (enabled_steps c.args.world.now.agenda.plan v) _ (omega (arith, all, none))

pub returns-clause-none : goal.returns-clause-none
returns-clause-none c =
    none_within _ c.enabled_at.result (choices c.args.world.now) c.number_below-place.result c.enabled_at.ensures.choices
    (let all = c.count_enabled-count.ensures.choices in let below = c.number_below-place.ensures.below in omega (arith, all, below))

pub returns-clause-step : goal.returns-clause-step
returns-clause-step c = λ first v r.
    c.enabled_at.ensures.in_runs first v r
    ∙ ap (λ (n : ℕ). slice_get (enabled_steps c.args.world.now.agenda.plan v) n)
    (ap (λ (t : ℕ × Generator). t.0) c.number_below-place.ensures.drawn ∙ ap (λ (n : ℕ). (draw_below n c.args.generator.now).0) (c.count_enabled-count.ensures.in_runs first v r))

pub returns-clause-generator : goal.returns-clause-generator
returns-clause-generator c = λ first v r.
    some_any c.enabled_at.result (ap (λ (g : Generator). Some g)
    (ap (λ (t : ℕ × Generator). t.1) c.number_below-place.ensures.drawn ∙ ap (λ (n : ℕ). (draw_below n c.args.generator.now).1) (c.count_enabled-count.ensures.in_runs first v r)))
