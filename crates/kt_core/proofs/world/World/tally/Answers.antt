use Rattle.std.proofs.Common.{rules, ◌≡◌, ◌≤◌, ◌*◌, ◌-◌, length, subst, sym}
use Rattle.kt_system.specs.declared.system.Tally.{Tally}
use Rattle.kt_core.specs.Worlds.{World}
use Rattle.kt_core.specs.Shown.{tally_shown}
use Rattle.kt_core.proofs.world.World.tally.Goals as goal

pub returns-clause-asks : goal.returns-clause-asks
returns-clause-asks c =
    let r = c.self.invariant.reached in
    let plan = c.self.inside.agenda.plan in
    let of_run : c.tally.result ≡ tally_shown r.3 c.args.inst = search rules in
    subst (λ (z : World). c.tally.result.asks ≤ length z.agenda.plan.names * (length z.agenda.plan.names - 1)) c.self.view_is
    (subst (λ (t : Tally). t.asks ≤ length plan.names * (length plan.names - 1)) (sym of_run)
    (c.tallies_of_runs.ensures.asks plan r.0 r.1 r.3 c.args.inst r.2.limits r.4.run))

pub returns-clause-replies : goal.returns-clause-replies
returns-clause-replies c =
    let r = c.self.invariant.reached in
    let plan = c.self.inside.agenda.plan in
    let of_run : c.tally.result ≡ tally_shown r.3 c.args.inst = search rules in
    subst (λ (t : Tally). t.replies ≤ t.asks) (sym of_run)
    (c.tallies_of_runs.ensures.replies plan r.0 r.1 r.3 c.args.inst r.2.limits r.4.run)

pub returns-clause-decisions : goal.returns-clause-decisions
returns-clause-decisions c =
    let r = c.self.invariant.reached in
    let plan = c.self.inside.agenda.plan in
    let of_run : c.tally.result ≡ tally_shown r.3 c.args.inst = search rules in
    subst (λ (t : Tally). t.decisions ≤ t.asks) (sym of_run)
    (c.tallies_of_runs.ensures.decisions plan r.0 r.1 r.3 c.args.inst r.2.limits r.4.run)
