use Rattle.std.proofs.Common.{subst, sym}
use Rattle.std.specs.Prelude.{OnOk}
use Rattle.kt_plan.specs.declared.steps.Step.{Step}
use Rattle.kt_core.specs.Making.{MakesStep}
use Rattle.kt_core.proofs.world.World.make_step.Goals as goal

pub returns-in-Do-clause-made : goal.returns-in-Do-clause-made
returns-in-Do-clause-made c = subst (λ (x : Step). OnOk c.do_next.result (MakesStep c.args.self.now x c.args.give c.do_next.new.acts c.do_next.new.self)) (sym c.in-Do.is) c.do_next.ensures.made

pub returns-in-Take-clause-made : goal.returns-in-Take-clause-made
returns-in-Take-clause-made c = subst (λ (x : Step). OnOk c.take.result (MakesStep c.args.self.now x c.args.give c.take.new.acts c.take.new.self)) (sym c.in-Take.is) c.take.ensures.made
