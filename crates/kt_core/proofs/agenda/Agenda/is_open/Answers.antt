use Rattle.std.specs.Prelude.{is_some}
use Rattle.std.proofs.Common.{◌≡◌, ◌<◌, ◌∙◌, subst, rules}
use Rattle.kt_base.specs.Sets.{has}
use Rattle.kt_core.specs.Agendas.{Agenda, open_command}
use Rattle.kt_core.proofs.agenda.Agenda.is_open.Goals as goal

pub returns : goal.returns
returns c =
    let low : c.args.p < 64 = search rules in
    c.has.ensures ∙ subst (λ (a : Agenda). has c.self.inside.in_phase c.args.p ≡ is_some (open_command a c.args.p)) c.self.view_is (c.self.invariant.in_phase c.args.p low)
