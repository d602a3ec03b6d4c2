use Rattle.kt_program.proofs.ask.draw_command.Goals as goal

pub returns : goal.returns
returns c =
    let cert = c.with_arg-command.ensures _ _ (c.command_of-command.ensures _ c.wanted.ensures) c.optional.ensures in
    let names = c.with_arg-command-2.ensures _ _ cert c.optional-2.ensures in
    let from = c.with_arg-command-3.ensures _ _ names c.optional-3.ensures in
    let to = c.with_arg-command-4.ensures _ _ from c.optional-4.ensures in
    c.with_hints.ensures _ (c.with_arg-command-5.ensures _ _ to c.optional-5.ensures)
