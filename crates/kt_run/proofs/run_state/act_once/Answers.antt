use Rattle.kt_run.proofs.Running.{tells_unkept}
use Rattle.kt_run.proofs.run_state.act_once.Goals as goal

pub returns-in-Ok-clause-leads : goal.returns-in-Ok-clause-leads
returns-in-Ok-clause-leads c =
    let made = c.in-Ok.ensures in
    tells_unkept c.laws_of_runs.ensures c.args.world.now c.make_step.new.self c.args.ready.now.step c.args.give c.make_step.new.acts made.keeps.grows made.keeps.limit c.requires.allowed (λ first v r. (made.made.runs first v r).enabled) (λ first v r. (made.made.runs first v r).leads) (λ first v r. (made.made.runs first v r).asks)
