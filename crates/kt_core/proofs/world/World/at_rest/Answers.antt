use Rattle.std.specs.Prelude.{IsTrue, ◌↔◌}
use Rattle.std.proofs.Common.{◌≡◌, ◌∙◌, Bool, false, List, subst, sym, rules}
use Rattle.kt_spacetime.specs.declared.event.Event.{Event}
use Rattle.kt_plan.specs.declared.steps.Step.{Step}
use Rattle.kt_meaning.specs.Follows.{FollowsPlan}
use Rattle.kt_core.specs.Worlds.{World, can_make, IsWorldAtRest}
use Rattle.kt_core.specs.Shown.{IsReached}
use Rattle.kt_core.specs.PlanLaws.{PlanLaws}
use Rattle.kt_core.proofs.Defaults.{rest_is, never_stuck}
use Rattle.kt_core.proofs.world.World.at_rest.Goals as goal

-- where no step can be made, what says whether all is done says so
rest_if_stuck : PlanLaws → (w : World) → IsReached w.agenda w.system → (b : Bool) → IsTrue b ↔ IsWorldAtRest w → ((x : Step) → can_make w x ≡ false) → IsTrue b
rest_if_stuck laws w r b i n = rest_is laws w r.0 r.1 r.2 b i ∙ never_stuck laws w r.0 r.1 r.2 n

pub returns-then-is_done-clause-in_runs : goal.returns-then-is_done-clause-in_runs
returns-then-is_done-clause-in_runs c = λ first v r.
    let exact : IsTrue c.is_quiet.result ↔ IsWorldAtRest c.args.self.now = search rules in
    rest_is c.laws_of_runs.ensures c.args.self.now first v r c.is_quiet.result exact

pub returns-then-is_done-clause-stuck : goal.returns-then-is_done-clause-stuck
returns-then-is_done-clause-stuck c =
    let r = subst (λ (w : World). IsReached w.agenda w.system) c.self.view_is c.self.invariant.reached in
    let exact : IsTrue c.is_quiet.result ↔ IsWorldAtRest c.args.self.now = search rules in
    rest_if_stuck c.laws_of_runs.ensures c.args.self.now r c.is_quiet.result exact

pub returns-then-is_done-clause-follows : goal.returns-then-is_done-clause-follows
returns-then-is_done-clause-follows c = λ t.
    let w = c.args.self.now in
    let r = subst (λ (w : World). IsReached w.agenda w.system) c.self.view_is c.self.invariant.reached in
    let exact : IsTrue c.is_quiet.result ↔ IsWorldAtRest c.args.self.now = search rules in
    subst (λ (rows : List Event). FollowsPlan w.agenda.plan rows) (sym r.2.now.log)
    (c.logs_follow_plans.ensures.follows w.agenda.plan r.0 r.1 r.2.limits r.2.reached
    (sym (rest_is c.laws_of_runs.ensures w r.0 r.1 r.2 c.is_quiet.result exact) ∙ t))

pub returns-else-is_done-clause-in_runs : goal.returns-else-is_done-clause-in_runs
returns-else-is_done-clause-in_runs c = λ first v r.
    let exact : IsTrue c.is_done.result ↔ IsWorldAtRest c.args.self.now = search rules in
    rest_is c.laws_of_runs.ensures c.args.self.now first v r c.is_done.result exact

pub returns-else-is_done-clause-stuck : goal.returns-else-is_done-clause-stuck
returns-else-is_done-clause-stuck c =
    let r = subst (λ (w : World). IsReached w.agenda w.system) c.self.view_is c.self.invariant.reached in
    let exact : IsTrue c.is_done.result ↔ IsWorldAtRest c.args.self.now = search rules in
    rest_if_stuck c.laws_of_runs.ensures c.args.self.now r c.is_done.result exact
