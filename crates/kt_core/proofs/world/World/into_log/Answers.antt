use Rattle.std.proofs.Common.{subst, sym, List}
use Rattle.kt_spacetime.specs.declared.event.Event.{Event}
use Rattle.kt_spacetime.specs.Logs.{Log}
use Rattle.kt_meaning.specs.Follows.{BeginsPlan}
use Rattle.kt_meaning.specs.Promised.{IsCertified, IsPromised}
use Rattle.kt_core.specs.Worlds.{World}
use Rattle.kt_core.proofs.world.World.into_log.Goals as goal

pub returns-clause-promised : goal.returns-clause-promised
returns-clause-promised c =
    let r = c.self.invariant.reached in
    subst (λ (log : Log). IsPromised log.rows) (sym c.into_log.ensures)
    (subst (λ (rows : List Event). IsPromised rows) (sym r.2.now.log)
    (c.logs_of_runs.ensures.promised c.self.inside.agenda.plan r.0 r.1 r.2.limits r.2.reached))

pub returns-clause-certified : goal.returns-clause-certified
returns-clause-certified c =
    let r = c.self.invariant.reached in
    subst (λ (log : Log). IsCertified log.rows) (sym c.into_log.ensures)
    (subst (λ (rows : List Event). IsCertified rows) (sym r.2.now.log)
    (c.certificates_of_promised_logs.ensures.certified _
    (c.logs_of_runs.ensures.promised c.self.inside.agenda.plan r.0 r.1 r.2.limits r.2.reached)))

pub returns-clause-begins : goal.returns-clause-begins
returns-clause-begins c =
    let r = c.self.invariant.reached in
    subst (λ (w : World). BeginsPlan w.agenda.plan c.into_log.result.rows) c.self.view_is
    (subst (λ (log : Log). BeginsPlan c.self.inside.agenda.plan log.rows) (sym c.into_log.ensures)
    (subst (λ (rows : List Event). BeginsPlan c.self.inside.agenda.plan rows) (sym r.2.now.log)
    (c.logs_follow_plans.ensures.begins c.self.inside.agenda.plan r.0 r.1 r.2.limits r.2.reached)))
