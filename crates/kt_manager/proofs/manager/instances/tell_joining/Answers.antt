use Rattle.std.proofs.Common.{◌∙◌, ◌++◌, ◌∷◌, [], List, sym, ap}
use Rattle.kt_base.specs.declared.words.Kind.{Kind}
use Rattle.kt_plan.specs.declared.steps.Act.{Act}
use Rattle.kt_plan.specs.declared.steps.Act.TheVariants.{Keep}
use Rattle.kt_manager.specs.ShownActs.{acts_shown, acts_joining}
use Rattle.kt_manager.proofs.Telling.{act_more}
use Rattle.kt_manager.proofs.manager.instances.tell_joining.Goals as goal

pub returns-in-Checkpoint-clause-acts : goal.returns-in-Checkpoint-clause-acts
returns-in-Checkpoint-clause-acts c =
    let before = c.args.out.now.acts in
    ap acts_shown (c.act.ensures.acts ∙ ap (λ (l : List Act). l ++ Keep ∷ []) c.row.ensures.acts)
    ∙ (act_more before Keep ∙ ap (λ (k : Kind). acts_shown before ++ acts_joining k) (sym c.in-Checkpoint.is))
