use Rattle.std.proofs.Common.{◌≡◌, ℕ, None, true, length, ap, subst, sym, ◌∙◌}
use Rattle.kt_plan.specs.Limits.{Planned}
use Rattle.kt_plan.specs.declared.steps.Step.TheVariants.{Take}
use Rattle.kt_manager.specs.ShownActs.{acts_shown}
use Rattle.kt_promises.specs.Progress.{Progress}
use Rattle.kt_promises.specs.Steps.{enabled, progress_after}
use Rattle.kt_promises.specs.Tallies.{tallies_after}
use Rattle.kt_core.specs.Shown.{Mirrors}
use Rattle.kt_core.specs.Making.{MakesStep}
use Rattle.kt_core.specs.Worlds.{World, step_refusal}
use Rattle.kt_core.proofs.Enabled.{enabled_is, enabled_if}
use Rattle.kt_core.proofs.Making.{makes_step}
use Rattle.kt_core.proofs.Leading.{take_acts, take_leads, take_puts, run_same, puts_same}
use Rattle.kt_core.proofs.world.World.take.Goals as goal

pub invariant_of-self : goal.invariant_of-self
invariant_of-self c =
    let r = c.self.invariant.reached in
    record {
      reached = (r.0, r.1, run_same c.self.inside.agenda c.self.inside.system c.take.new.self r.0 r.1 c.in_err-take.ensures.keeps.err r.2, r.3, puts_same c.self.inside.agenda c.self.inside.system c.take.new.self r.0 r.1 r.3 c.in_err-take.ensures.keeps.err r.4);
      size = c.take.ensures.keeps.size ∙ c.self.invariant.size;
      rows = c.self.invariant.rows;
    }

pub invariant_of-self-2 : goal.invariant_of-self-2
invariant_of-self-2 c =
    let r = c.self.invariant.reached in
    let a = c.self.inside.agenda in
    let w : World = record { agenda = a; system = c.self.inside.system; limit = c.self.inside.limit } in
    let allowed = subst (λ (z : World). step_refusal z (Take c.args.at c.args.from) ≡ None) (sym c.self.view_is) c.requires in
    let size = c.self.invariant.size in
    let opened = c.settle.ensures in
    let on = sym (enabled_is c.laws_of_runs.ensures w r.0 r.1 r.2 (Take c.args.at c.args.from)) ∙ enabled_if w (Take c.args.at c.args.from) allowed in
    let next = take_leads c.laws_of_runs.ensures a c.settle.new.agenda c.self.inside.system c.take.new.self c.args.at c.args.from c.args.give r.0 r.1 r.2 on
    (λ h says. c.in_ok-take.ensures.shows r.1.now h says) opened.plan opened.next opened.settled (c.take.ensures.keeps.size ∙ size) opened.numbered c.in_ok-take.ensures.keeps.tallies in
    record {
      reached = (
        r.0,
        progress_after a.plan r.1 (Take c.args.at c.args.from) c.args.give,
        next,
        tallies_after a.plan r.1 (Take c.args.at c.args.from) c.args.give r.3,
        take_puts c.laws_of_runs.ensures a c.settle.new.agenda c.self.inside.system c.take.new.self c.args.at c.args.from c.args.give r.0 r.1 r.3 opened.plan r.2 r.4 on next c.in_ok-take.ensures.keeps.tallies,
      );
      size = c.take.ensures.keeps.size ∙ (size ∙ ap (λ (plan : Planned). length plan.names) (sym opened.plan));
      rows = c.self.invariant.rows;
    }

pub returns-clause-made : goal.returns-clause-made
returns-clause-made c =
    let a = c.self.inside.agenda in
    let w : World = record { agenda = a; system = c.self.inside.system; limit = c.self.inside.limit } in
    let allowed = subst (λ (z : World). step_refusal z (Take c.args.at c.args.from) ≡ None) (sym c.self.view_is) c.requires in
    let size = c.self.invariant.size in
    let opened = c.settle.ensures in
    let on : (first : ℕ) (v : Progress) → Mirrors a c.self.inside.system first v → enabled a.plan v (Take c.args.at c.args.from) ≡ true =
    λ first v r. sym (enabled_is c.laws_of_runs.ensures w first v r (Take c.args.at c.args.from)) ∙ enabled_if w (Take c.args.at c.args.from) allowed in
    let leads : (first : ℕ) (v : Progress) → Mirrors a c.self.inside.system first v → Mirrors c.settle.new.agenda c.take.new.self first (progress_after a.plan v (Take c.args.at c.args.from) c.args.give) =
    λ first v r. take_leads c.laws_of_runs.ensures a c.settle.new.agenda c.self.inside.system c.take.new.self c.args.at c.args.from c.args.give first v r (on first v r)
    (λ h says. c.in_ok-take.ensures.shows v.now h says) opened.plan opened.next opened.settled (c.take.ensures.keeps.size ∙ size) opened.numbered c.in_ok-take.ensures.keeps.tallies in
    subst (λ (z : World). MakesStep z (Take c.args.at c.args.from) c.args.give c.take.new.acts (record { agenda = c.settle.new.agenda; system = c.take.new.self; limit = c.self.inside.limit })) c.self.view_is
    (makes_step c.laws_of_runs.ensures w (record { agenda = c.settle.new.agenda; system = c.take.new.self; limit = c.self.inside.limit }) (Take c.args.at c.args.from) c.args.give c.take.new.acts c.self.invariant.reached allowed
    opened.next opened.settled
    leads
    (λ first v r. take_acts c.laws_of_runs.ensures a c.self.inside.system c.args.at c.args.from c.args.give first v (acts_shown c.take.new.acts) r (on first v r) (λ h. c.in_ok-take.ensures.acts v.now h))
    (λ first v put r y. take_puts c.laws_of_runs.ensures a c.settle.new.agenda c.self.inside.system c.take.new.self c.args.at c.args.from c.args.give first v put opened.plan r y (on first v r) (leads first v r) c.in_ok-take.ensures.keeps.tallies))
