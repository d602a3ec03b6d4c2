use Rattle.std.proofs.Common.{◌≡◌, ◌∙◌, ℕ, rules, subst, sym}
use Rattle.kt_plan.specs.Limits.{Planned, IsPlan}
use Rattle.kt_plan.specs.declared.steps.Look.{Look}
use Rattle.kt_plan.specs.declared.steps.Look.TheVariants.{Idle}
use Rattle.kt_plan.specs.declared.steps.Step.{Step}
use Rattle.kt_promises.specs.Looks as run_looks
use Rattle.kt_promises.specs.Progress.{Progress}
use Rattle.kt_promises.specs.Runs.{RunReaches}
use Rattle.kt_core.specs.Looked.{TellsOfStep}
use Rattle.kt_core.specs.PlanLaws.{PlanLaws}
use Rattle.kt_core.specs.Shown.{Mirrors}
use Rattle.kt_core.specs.Worlds.{World, needs}
use Rattle.kt_core.proofs.Looks.{look_is}
use Rattle.kt_core.proofs.world.World.look.Goals as goal

-- what a step needs tells of each run that leads to the world
need_tells : PlanLaws → ((plan : Planned) (first : ℕ) (v : Progress) (step : Step) → IsPlan plan → RunReaches plan first v
    → TellsOfStep plan v step (run_looks.look plan v step)) → (w : World) (step : Step) (found : Look) → found ≡ needs w step
    → (first : ℕ) (v : Progress) → Mirrors w.agenda w.system first v → TellsOfStep w.agenda.plan v step found
need_tells laws tells w step found exact first v r =
    subst (λ (x : Look). TellsOfStep w.agenda.plan v step x) (sym (exact ∙ look_is laws w first v r step))
    (tells w.agenda.plan first v step r.limits r.reached)

pub returns-then-not-enabled-clause-in_runs : goal.returns-then-not-enabled-clause-in_runs
returns-then-not-enabled-clause-in_runs c = λ first v r.
    let exact : Idle ≡ needs c.args.self.now c.args.step.now = search rules in
    exact ∙ look_is c.laws_of_runs.ensures c.args.self.now first v r c.args.step.now

pub returns-then-not-enabled-clause-tells : goal.returns-then-not-enabled-clause-tells
returns-then-not-enabled-clause-tells c = need_tells c.laws_of_runs.ensures c.laws_of_looks.ensures c.args.self.now c.args.step.now Idle (search rules)

pub returns-in-Do-clause-in_runs : goal.returns-in-Do-clause-in_runs
returns-in-Do-clause-in_runs c = λ first v r.
    let exact : c.look_at_next.result ≡ needs c.args.self.now c.args.step.now = search rules in
    exact ∙ look_is c.laws_of_runs.ensures c.args.self.now first v r c.args.step.now

pub returns-in-Do-clause-tells : goal.returns-in-Do-clause-tells
returns-in-Do-clause-tells c = need_tells c.laws_of_runs.ensures c.laws_of_looks.ensures c.args.self.now c.args.step.now c.look_at_next.result (search rules)

pub returns-in-Take-clause-in_runs : goal.returns-in-Take-clause-in_runs
returns-in-Take-clause-in_runs c = λ first v r.
    let exact : c.look_at_parcel.result ≡ needs c.args.self.now c.args.step.now = search rules in
    exact ∙ look_is c.laws_of_runs.ensures c.args.self.now first v r c.args.step.now

pub returns-in-Take-clause-tells : goal.returns-in-Take-clause-tells
returns-in-Take-clause-tells c = need_tells c.laws_of_runs.ensures c.laws_of_looks.ensures c.args.self.now c.args.step.now c.look_at_parcel.result (search rules)
