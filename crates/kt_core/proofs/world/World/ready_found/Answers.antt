use Rattle.kt_plan.specs.declared.steps.Step.TheVariants.{Do, Take}
use Rattle.kt_core.proofs.Looks.{ready_look}
use Rattle.kt_core.proofs.world.World.ready_found.Goals as goal

pub returns-in-Some-clause-in_runs : goal.returns-in-Some-clause-in_runs
returns-in-Some-clause-in_runs c =
    ready_look c.laws_of_runs.ensures c.args.self.now c.args.step.now (Do c.in-Do.p) c.ready_to_do.result c.in-Do.is c.ready_to_do.ensures.look

pub returns-in-Take-clause-in_runs : goal.returns-in-Take-clause-in_runs
returns-in-Take-clause-in_runs c =
    ready_look c.laws_of_runs.ensures c.args.self.now c.args.step.now (Take c.in-Take.at c.in-Take.from) c.ready_to_take.result c.in-Take.is c.ready_to_take.ensures.look
