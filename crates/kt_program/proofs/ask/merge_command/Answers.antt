use Rattle.std.proofs.Common.{◌∙◌, ap}
use Rattle.kt_program.proofs.Commands.{appended}
use Rattle.kt_program.proofs.ask.merge_command.Goals as goal

pub returns : goal.returns
returns c =
    let parts = appended _ _ _ c.wanted.ensures c.action-parts.ensures in
    c.with_hints.ensures _ (c.with_arg-command.ensures _ _ (c.command_of-command.ensures _ parts) c.optional.ensures)
