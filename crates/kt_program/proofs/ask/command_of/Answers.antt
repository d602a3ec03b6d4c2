use Rattle.std.proofs.Common.{rules}
use Rattle.clap.specs.Words.{new_app}
use Rattle.kt_program.proofs.ask.command_of.Goals as goal

pub returns : goal.returns
returns c rule is = c.with_arg.ensures (new_app c.args.name.now) _ (record { shape = search rules; globals = search rules }) is
