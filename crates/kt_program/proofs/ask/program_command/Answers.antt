use Rattle.std.proofs.Common.{rules}
use Rattle.std.specs.Prelude.{codes}
use Rattle.clap.specs.Words.{new_app}
use Rattle.kt_program.specs.Program.{with_version}
use Rattle.kt_program.proofs.ask.program_command.Goals as goal

pub returns : goal.returns
returns c =
    let bare = c.with_hints-command.ensures (with_version (new_app (codes "koo_toueg"))) (record { shape = search rules; globals = search rules }) in
    let play = c.with_subcommand-command.ensures _ _ bare c.play_command.ensures in
    let live = c.with_subcommand-command-2.ensures _ _ play c.live_command.ensures in
    let check = c.with_subcommand-command-3.ensures _ _ live c.check_command.ensures in
    let certify = c.with_subcommand-command-4.ensures _ _ check c.certify_command.ensures in
    let draw = c.with_subcommand-command-5.ensures _ _ certify c.draw_command.ensures in
    c.with_subcommand.ensures _ _ draw c.merge_command.ensures
