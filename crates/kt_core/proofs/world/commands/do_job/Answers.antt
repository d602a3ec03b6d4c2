use Rattle.std.proofs.Common.{◌≡◌, OnOk, subst, sym}
use Rattle.kt_plan.specs.declared.commands.Job.{Job}
use Rattle.kt_machine.specs.Transition.{transition}
use Rattle.kt_system.specs.Shown.{ShowsState}
use Rattle.kt_manager.specs.ShownActs.{acts_shown}
use Rattle.kt_machine.specs.SeenActs.{seen_acts}
use Rattle.kt_promises.specs.Steps.{protocol_step}
use Rattle.kt_core.proofs.world.commands.do_job.Goals as goal

pub returns-in-Rollback-clause-shows : goal.returns-in-Rollback-clause-shows
returns-in-Rollback-clause-shows c = λ v h few says. subst (λ (j : Job). OnOk c.begin_rollback.result (ShowsState c.begin_rollback.new.self (transition v (protocol_step c.args.p j c.args.give)))) (sym c.in-Rollback.is)
    (c.begin_rollback.ensures.shows v c.args.give.able h few)

pub returns-in-Send-clause-acts : goal.returns-in-Send-clause-acts
returns-in-Send-clause-acts c = λ v h few. subst (λ (j : Job). OnOk c.send.result (acts_shown c.send.new.acts ≡ seen_acts v (protocol_step c.args.p j c.args.give))) (sym c.in-Send.is) (c.send.ensures.acts v)

pub returns-in-Rollback-clause-acts : goal.returns-in-Rollback-clause-acts
returns-in-Rollback-clause-acts c = λ v h few. subst (λ (j : Job). OnOk c.begin_rollback.result (acts_shown c.begin_rollback.new.acts ≡ seen_acts v (protocol_step c.args.p j c.args.give))) (sym c.in-Rollback.is)
    (c.begin_rollback.ensures.acts v c.args.give.able h few)
