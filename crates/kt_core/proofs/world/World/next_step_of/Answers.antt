use Rattle.std.proofs.Common.{◌≡◌, true, Some, rules}
use Rattle.kt_plan.specs.declared.steps.Step.TheVariants.{Do, Take}
use Rattle.kt_core.specs.Worlds.{can_make}
use Rattle.kt_core.proofs.Enabled.{IfSome-enabled_in_run}
use Rattle.kt_core.proofs.world.World.next_step_of.Goals as goal

pub returns-in-Some-clause-in_runs : goal.returns-in-Some-clause-in_runs
returns-in-Some-clause-in_runs c = λ first v r.
    let able : can_make c.args.self.now (Take c.args.p c.in-Some.from) ≡ true = search rules in
    IfSome-enabled_in_run c.laws_of_runs.ensures c.args.self.now first v r (Some (Take c.args.p c.in-Some.from)) able

pub returns-then-can_do-clause-in_runs : goal.returns-then-can_do-clause-in_runs
returns-then-can_do-clause-in_runs c = λ first v r.
    let able : can_make c.args.self.now (Do c.args.p) ≡ true = search rules in
    IfSome-enabled_in_run c.laws_of_runs.ensures c.args.self.now first v r (Some (Do c.args.p)) able
