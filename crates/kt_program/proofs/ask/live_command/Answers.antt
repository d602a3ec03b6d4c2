use Rattle.kt_program.proofs.ask.live_command.Goals as goal

pub returns : goal.returns
returns c = c.with_outputs.ensures _ (c.with_arg.ensures _ _ (c.command_of-command.ensures _ c.wanted-scenario.ensures) c.optional-record.ensures)
