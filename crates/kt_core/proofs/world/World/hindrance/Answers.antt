use Rattle.std.proofs.Common.{◌≡◌, true, false, Some, sym, subst, rules}
use Rattle.kt_plan.specs.declared.steps.Step.{Step}
use Rattle.kt_promises.specs.Hindrances.{hindrance}
use Rattle.kt_core.specs.Worlds.{can_make}
use Rattle.kt_core.proofs.Hindrances.{nothing, no_parcel}
use Rattle.kt_core.proofs.world.World.hindrance.Goals as goal

pub returns-then-enabled-clause-in_runs : goal.returns-then-enabled-clause-in_runs
returns-then-enabled-clause-in_runs c = λ first v r.
    let on : can_make c.args.self.now c.args.step.now ≡ true = search rules in
    sym (nothing c.laws_of_runs.ensures c.args.self.now first v r c.args.step.now on)

pub returns-in-Do-clause-in_runs : goal.returns-in-Do-clause-in_runs
returns-in-Do-clause-in_runs c = λ first v r.
    sym (subst (λ (x : Step). hindrance c.args.self.now.agenda.plan v x ≡ Some c.hindrance_of_next.result) (sym c.in-Do.is) (c.hindrance_of_next.ensures first v r))

pub returns-in-Take-clause-in_runs : goal.returns-in-Take-clause-in_runs
returns-in-Take-clause-in_runs c = λ first v r.
    let off : can_make c.args.self.now c.args.step.now ≡ false = search rules in
    sym (no_parcel c.laws_of_runs.ensures c.args.self.now first v r c.args.step.now c.in-Take.is off)
