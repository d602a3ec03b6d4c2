use Rattle.kt_program.proofs.ask.with_hints.Goals as goal

pub returns : goal.returns
returns c app defined = c.with_arg.ensures _ _ defined c.switch.ensures
