use Rattle.kt_program.proofs.ask.certify_command.Goals as goal

pub returns : goal.returns
returns c = c.with_hints.ensures _ (c.with_arg-command.ensures _ _ (c.command_of-command.ensures _ c.wanted.ensures) c.optional.ensures)
