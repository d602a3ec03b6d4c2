use Rattle.std.proofs.Common.{◌≡◌, true, [], ◌∷◌, subst, sym}
use Rattle.kt_core.specs.Worlds.{can_make}
use Rattle.kt_plan.specs.declared.steps.Act.TheVariants as act
use Rattle.kt_plan.specs.declared.steps.Look.TheVariants as looks
use Rattle.kt_plan.specs.declared.steps.Step.{Step}
use Rattle.kt_plan.specs.declared.steps.Step.TheVariants.{Take}
use Rattle.kt_promises.specs.Looks.{look}
use Rattle.kt_run.specs.Runs.{Tells}
use Rattle.kt_run.proofs.Running.{tells_unkept}
use Rattle.kt_run.proofs.run_state.quiet.make_quietly.Goals as goal

pub take_quietly-requires : goal.take_quietly-requires
take_quietly-requires c = subst (λ (x : Step). can_make c.args.world.now x ≡ true) c.in-Take.is c.requires

pub returns-in-Ok-clause-look : goal.returns-in-Ok-clause-look
returns-in-Ok-clause-look c = λ e first v r. subst (λ (x : Step). look c.args.world.now.agenda.plan v x ≡ looks.Plain) (sym c.in-Take.is) (c.in-Ok.ensures.in_runs e first v r)

pub returns-in-Ok-clause-leads : goal.returns-in-Ok-clause-leads
returns-in-Ok-clause-leads c = λ e give off.
    let made = c.in-Ok.ensures in
    let step = made.made e give off in
    subst (λ (x : Step). Tells c.args.world.now [] x give c.take_quietly.new.self [] (act.Nothing ∷ act.Nothing ∷ [])) (sym c.in-Take.is)
    (tells_unkept c.laws_of_runs.ensures c.args.world.now c.take_quietly.new.self (Take c.in-Take.at c.in-Take.from) give (act.Nothing ∷ act.Nothing ∷ []) made.keeps.grows made.keeps.limit (made.allowed e)
    (λ first v r. (step.runs first v r).enabled) (λ first v r. (step.runs first v r).leads) (λ first v r. (step.runs first v r).asks))
