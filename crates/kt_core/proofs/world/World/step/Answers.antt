use Rattle.std.proofs.Common.{subst}
use Rattle.kt_plan.specs.declared.steps.Step.{Step}
use Rattle.kt_core.specs.Making.{MakesStep}
use Rattle.kt_core.proofs.RowsAdded.{rows_fit}
use Rattle.kt_core.proofs.world.World.step.Goals as goal

pub returns-in_ok-make_step-in-Ok-clause-made : goal.returns-in_ok-make_step-in-Ok-clause-made
returns-in_ok-make_step-in-Ok-clause-made c =
    subst (λ (x : Step). MakesStep c.args.self.now x c.args.give c.make_step.new.acts c.make_step.new.self) c.in-Ok.ensures.step c.in_ok-make_step-in-Ok.ensures.made

pub returns-in_ok-make_step-in-Ok-clause-rows : goal.returns-in_ok-make_step-in-Ok-clause-rows
returns-in_ok-make_step-in-Ok-clause-rows c = λ first v r.
    let made = returns-in_ok-make_step-in-Ok-clause-made c in
    rows_fit c.laws_of_runs.ensures c.args.self.now c.make_step.new.self first v c.args.step c.args.give c.in-Ok.ensures.allowed r ((made.runs first v r).leads)
