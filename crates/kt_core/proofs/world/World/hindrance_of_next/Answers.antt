use Rattle.std.specs.Prelude.{Option, is_none}
use Rattle.std.proofs.Common.{rules, ◌≡◌, true, false, length, ap, sym, ◌∙◌}
use Rattle.kt_plan.specs.declared.commands.Command.{Command}
use Rattle.kt_core.specs.Agendas.{Agenda, agenda_command, open_command}
use Rattle.kt_core.specs.Worlds.{World}
use Rattle.kt_core.proofs.Hindrances.{none_read, shut_read, open_read}
use Rattle.kt_core.proofs.world.World.hindrance_of_next.Goals as goal

pub returns-then-is_none : goal.returns-then-is_none
returns-then-is_none c = λ first v r.
    let same = ap (λ (w : World). w.agenda) c.self.view_is in
    let read = sym (ap (λ (a : Agenda). agenda_command a c.args.p) same) ∙ sym c.command_at.ensures.command in
    let none : is_none c.command_at.result ≡ true = search rules in
    none_read c.laws_of_runs.ensures c.args.self.now first v r c.args.p c.command_at.result read none

pub returns-then-is_none-2 : goal.returns-then-is_none-2
returns-then-is_none-2 c = λ first v r.
    let same = ap (λ (w : World). w.agenda) c.self.view_is in
    let read = sym (ap (λ (a : Agenda). agenda_command a c.args.p) same) ∙ sym c.command_at.ensures.command in
    let some : is_none c.command_at.result ≡ false = search rules in
    let none : is_none c.open_command.result ≡ true = search rules in
    let shut = sym (ap (λ (a : Agenda). is_none (open_command a c.args.p)) same) ∙ (sym (ap (λ (o : Option Command). is_none o) c.open_command.ensures.command) ∙ none) in
    shut_read c.laws_of_runs.ensures c.args.self.now first v r c.args.p (length c.self.inside.agenda.plan.names) c.command_at.result (ap (λ (a : Agenda). length a.plan.names) same) c.command_at.ensures.allowed c.command_at.ensures.own read some shut

pub returns-else-is_none-2 : goal.returns-else-is_none-2
returns-else-is_none-2 c = λ first v r.
    let same = ap (λ (w : World). w.agenda) c.self.view_is in
    let read = sym (ap (λ (a : Agenda). agenda_command a c.args.p) same) ∙ sym c.command_at.ensures.command in
    let some : is_none c.command_at.result ≡ false = search rules in
    let more : is_none c.open_command.result ≡ false = search rules in
    let found = sym (ap (λ (a : Agenda). is_none (open_command a c.args.p)) same) ∙ (sym (ap (λ (o : Option Command). is_none o) c.open_command.ensures.command) ∙ more) in
    open_read c.laws_of_runs.ensures c.args.self.now first v r c.args.p (length c.self.inside.agenda.plan.names) c.command_at.result (ap (λ (a : Agenda). length a.plan.names) same) c.command_at.ensures.allowed c.command_at.ensures.own read some found c.requires
