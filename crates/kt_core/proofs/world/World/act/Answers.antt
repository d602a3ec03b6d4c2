use Rattle.std.proofs.Common.{subst}
use Rattle.kt_plan.specs.declared.steps.Step.{Step}
use Rattle.kt_core.specs.Making.{MakesStep}
use Rattle.kt_core.proofs.world.World.act.Goals as goal

pub returns-in_ok-make_step-in-Ok-clause-made : goal.returns-in_ok-make_step-in-Ok-clause-made
returns-in_ok-make_step-in-Ok-clause-made c =
    subst (λ (x : Step). MakesStep c.args.self.now x c.args.give c.make_step.new.acts c.make_step.new.self) c.in-Ok.ensures.step c.in_ok-make_step-in-Ok.ensures.made
