use Rattle.std.proofs.Common.{◌<◌, ℕ, take}
use Rattle.std.specs.Prelude.{All}
use Rattle.kt_plan.specs.Limits.{IsCommandOf}
use Rattle.kt_plan.proofs.plan.are_commands.Given as goal

abbrev pub invariant-loop-command : goal.invariant-loop-command
invariant-loop-command l = All (IsCommandOf l.count) (take l.command-index l.commands)
