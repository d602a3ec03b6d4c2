use Rattle.kt_program.proofs.ask.play_command.Goals as goal

pub returns : goal.returns
returns c =
    let command = c.command_of-command.ensures _ c.wanted-scenario.ensures in
    let steps = c.with_arg-command.ensures _ _ command c.optional.ensures in
    let seed = c.with_arg-command-2.ensures _ _ steps c.numeric.ensures in
    c.with_outputs.ensures _ (c.with_arg-command-3.ensures _ _ seed c.optional-2.ensures)
