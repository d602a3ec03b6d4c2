use Rattle.std.proofs.Common.{◌≡◌, ◌∙◌, ◌++◌, Bool, true, false, rules, sym, ap, ap₂}
use Rattle.kt_plan.specs.declared.steps.Act.TheVariants.{Restore, Promote, Discard}
use Rattle.kt_machine.specs.Values.{closing as acts_of_closing}
use Rattle.kt_manager.specs.ShownActs.{acts_shown}
use Rattle.kt_manager.proofs.Telling.{act_more}
use Rattle.kt_manager.proofs.manager.instances.act_closing.Goals as goal

pub returns-in-true-true-clause-acts : goal.returns-in-true-true-clause-acts
returns-in-true-true-clause-acts c =
    let before = c.args.out.now.acts in
    let roll : c.args.is_rollback ≡ true = search rules in
    let commits : c.args.commit ≡ true = search rules in
    ap acts_shown c.act.ensures.acts ∙ (act_more before Restore ∙ ap₂ (λ (a b : Bool). acts_shown before ++ acts_of_closing a b) (sym roll) (sym commits))

pub returns-in-false-true-clause-acts : goal.returns-in-false-true-clause-acts
returns-in-false-true-clause-acts c =
    let before = c.args.out.now.acts in
    let roll : c.args.is_rollback ≡ false = search rules in
    let commits : c.args.commit ≡ true = search rules in
    ap acts_shown c.act-in-false-true.ensures.acts ∙ (act_more before Promote ∙ ap₂ (λ (a b : Bool). acts_shown before ++ acts_of_closing a b) (sym roll) (sym commits))

pub returns-in-false-false-clause-acts : goal.returns-in-false-false-clause-acts
returns-in-false-false-clause-acts c =
    let before = c.args.out.now.acts in
    let roll : c.args.is_rollback ≡ false = search rules in
    let commits : c.args.commit ≡ false = search rules in
    ap acts_shown c.act-in-false-false.ensures.acts ∙ (act_more before Discard ∙ ap₂ (λ (a b : Bool). acts_shown before ++ acts_of_closing a b) (sym roll) (sym commits))
