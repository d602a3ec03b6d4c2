use Rattle.kt_program.proofs.ask.with_outputs.Goals as goal

pub returns : goal.returns
returns c app defined = c.with_hints.ensures _ (c.with_arg-command-2.ensures _ _ (c.with_arg-command.ensures _ _ defined c.optional.ensures) c.optional-2.ensures)
