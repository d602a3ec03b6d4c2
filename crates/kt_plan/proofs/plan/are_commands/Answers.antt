use Rattle.std.proofs.Common.{◌≡◌, ◌<◌, ◌≤◌, ℕ, take, sym, subst, arith, length, rules}
use Rattle.std.specs.Prelude.{All}
use Rattle.std.proofs.lemmas.List.Elements.{All-more}
use Rattle.std.proofs.lemmas.List.{take_all}
use Rattle.kt_plan.specs.declared.commands.Command.{Command}
use Rattle.kt_plan.specs.Limits.{IsCommandOf}
use Rattle.kt_plan.proofs.plan.are_commands.Goals as goal

pub loop-command-preserved : goal.loop-command-preserved
loop-command-preserved c =
    let here : IsCommandOf c.args.count c.command-item.result = search rules in
    All-more (IsCommandOf c.args.count) c.args.commands.now c.loop-command.command-index c.command-item.result c.loop-command-test.true c.loop-command.invariant
    (subst (IsCommandOf c.args.count) c.command-item.is here)

pub returns : goal.returns
returns c =
    let whole : take c.loop-command.command-index c.args.commands.now ≡ c.args.commands.now = take_all c.loop-command.command-index c.args.commands.now (omega arith) in
    let all = subst (All (IsCommandOf c.args.count)) whole c.loop-command.invariant in
    (λ yes. all, λ kept. search rules)
