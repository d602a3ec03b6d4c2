use Rattle.kt_program.proofs.ask.check_command.Goals as goal

pub returns : goal.returns
returns c =
    let cert = c.with_arg-command.ensures _ _ (c.command_of-command.ensures _ c.wanted.ensures) c.possible.ensures in
    let told = c.with_arg-command-2.ensures _ _ cert c.switch.ensures in
    c.with_hints.ensures _ (c.with_arg-command-3.ensures _ _ told c.switch-2.ensures)
