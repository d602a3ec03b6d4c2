use Rattle.kt_core.proofs.Firsts.{first_has_least_phase}
use Rattle.kt_core.proofs.agenda.Agenda.least_phase.Goals as goal

pub returns-in-Some-clause-least : goal.returns-in-Some-clause-least
returns-in-Some-clause-least c = first_has_least_phase c.args.self.now c.in-Some.command c.first_left.ensures.limits c.in-Some.ensures.there c.in-Some.ensures.next c.in-Some.ensures.first
