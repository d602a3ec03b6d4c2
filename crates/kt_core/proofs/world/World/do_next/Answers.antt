use Rattle.std.proofs.Common.{◌≡◌, ◌+◌, ℕ, None, true, length, ap, subst, sym, ◌∙◌}
use Rattle.std.specs.Prelude.{List, slice_index_or}
use Rattle.std.proofs.lemmas.Option.{slice_get_within}
use Rattle.kt_plan.specs.Limits.{Planned}
use Rattle.kt_plan.specs.declared.steps.Step.TheVariants.{Do}
use Rattle.kt_manager.specs.ShownActs.{acts_shown}
use Rattle.kt_promises.specs.Progress.{Progress}
use Rattle.kt_promises.specs.Steps.{enabled, progress_after}
use Rattle.kt_promises.specs.Tallies.{tallies_after}
use Rattle.kt_core.specs.Shown.{Mirrors}
use Rattle.kt_core.specs.Agendas.{agenda_place, IsNextOf}
use Rattle.kt_core.specs.Making.{MakesStep}
use Rattle.kt_core.specs.Worlds.{World, step_refusal}
use Rattle.kt_core.proofs.Enabled.{few, enabled_is, enabled_if, does_there, opened_as}
use Rattle.kt_core.proofs.Making.{makes_step}
use Rattle.kt_core.proofs.Leading.{do_acts, do_leads, do_puts, run_same, puts_same, open_is_next}
use Rattle.kt_core.proofs.Phases.{settles_from}
use Rattle.kt_core.proofs.world.World.do_next.Goals as goal

pub invariant_of-self : goal.invariant_of-self
invariant_of-self c =
    let r = c.self.invariant.reached in
    record {
      reached = (r.0, r.1, run_same c.self.inside.agenda c.self.inside.system c.do_job.new.system r.0 r.1 c.in_err-do_job.ensures.err r.2, r.3, puts_same c.self.inside.agenda c.self.inside.system c.do_job.new.system r.0 r.1 r.3 c.in_err-do_job.ensures.err r.4);
      size = c.do_job.ensures.size ∙ c.self.invariant.size;
      rows = c.self.invariant.rows;
    }

pub invariant_of-self-2 : goal.invariant_of-self-2
invariant_of-self-2 c =
    let r = c.self.invariant.reached in
    let a = c.self.inside.agenda in
    let s = c.self.inside.system in
    let w : World = record { agenda = a; system = s; limit = c.self.inside.limit } in
    let p = c.args.p in
    let allowed = subst (λ (z : World). step_refusal z (Do p) ≡ None) (sym c.self.view_is) c.requires.allowed in
    let there = does_there w p allowed in
    let size = c.self.invariant.size in
    let command = opened_as w p c.in-Some.command allowed (sym c.in-Some.ensures.command) in
    let on = sym (enabled_is c.laws_of_runs.ensures w r.0 r.1 r.2 (Do p)) ∙ enabled_if w (Do p) allowed in
    let move = c.advance.ensures in
    let opened = c.settle.ensures in
    let next = do_leads c.laws_of_runs.ensures a c.advance.new.self c.settle.new.agenda s c.do_job.new.system p c.in-Some.command c.args.give r.0 r.1 r.2 (few w r.0 r.1 r.2 p there) command on
    (λ h begun says. c.in_ok-do_job.ensures.shows r.1.now h begun says) move.plan move.phase move.next move.others opened.plan opened.next opened.settled (c.do_job.ensures.size ∙ size) opened.numbered c.in_ok-do_job.ensures.tallies in
    record {
      reached = (
        r.0,
        progress_after a.plan r.1 (Do p) c.args.give,
        next,
        tallies_after a.plan r.1 (Do p) c.args.give r.3,
        do_puts c.laws_of_runs.ensures a c.settle.new.agenda s c.do_job.new.system p c.args.give r.0 r.1 r.3 (opened.plan ∙ move.plan) r.2 r.4 on next c.in_ok-do_job.ensures.tallies,
      );
      size = c.do_job.ensures.size ∙ (size ∙ ap (λ (plan : Planned). length plan.names) (sym (opened.plan ∙ move.plan)));
      rows = c.self.invariant.rows;
    }

pub returns-clause-made : goal.returns-clause-made
returns-clause-made c =
    let a = c.self.inside.agenda in
    let s = c.self.inside.system in
    let b = c.settle.new.agenda in
    let w : World = record { agenda = a; system = s; limit = c.self.inside.limit } in
    let p = c.args.p in
    let allowed = subst (λ (z : World). step_refusal z (Do p) ≡ None) (sym c.self.view_is) c.requires.allowed in
    let there = does_there w p allowed in
    let size = c.self.invariant.size in
    let command = opened_as w p c.in-Some.command allowed (sym c.in-Some.ensures.command) in
    let move = c.advance.ensures in
    let opened = c.settle.ensures in
    let next = open_is_next a p c.in-Some.command command in
    let on : (first : ℕ) (v : Progress) → Mirrors a s first v → enabled a.plan v (Do p) ≡ true = λ first v r. sym (enabled_is c.laws_of_runs.ensures w first v r (Do p)) ∙ enabled_if w (Do p) allowed in
    let leads : (first : ℕ) (v : Progress) → Mirrors a s first v → Mirrors b c.do_job.new.system first (progress_after a.plan v (Do p) c.args.give) =
    λ first v r. do_leads c.laws_of_runs.ensures a c.advance.new.self b s c.do_job.new.system p c.in-Some.command c.args.give first v r (few w first v r p there) command (on first v r)
    (λ h begun says. c.in_ok-do_job.ensures.shows v.now h begun says) move.plan move.phase move.next move.others opened.plan opened.next opened.settled (c.do_job.ensures.size ∙ size) opened.numbered c.in_ok-do_job.ensures.tallies in
    let same : (q : ℕ) → agenda_place b q ≡ agenda_place c.advance.new.self q = λ q. ap (λ (l : List ℕ). slice_index_or l q 0) opened.next in
    subst (λ (z : World). MakesStep z (Do p) c.args.give c.do_job.new.acts (record { agenda = b; system = c.do_job.new.system; limit = c.self.inside.limit })) c.self.view_is
    (makes_step c.laws_of_runs.ensures w (record { agenda = b; system = c.do_job.new.system; limit = c.self.inside.limit }) (Do p) c.args.give c.do_job.new.acts c.self.invariant.reached allowed (
      subst (λ (j : ℕ). IsNextOf a.plan.commands p (agenda_place a p + 1) j) (sym (same p)) (move.next (slice_get_within a.plan.commands (agenda_place a p) c.in-Some.command next)),
      λ q n. same q ∙ move.others q n,
    )
    (settles_from c.do_job.new.system a c.advance.new.self b move.phase opened.settled)
    leads
    (λ first v r. do_acts c.laws_of_runs.ensures a s p c.in-Some.command c.args.give first v (acts_shown c.do_job.new.acts) r (few w first v r p there) command (on first v r) (λ h begun. c.in_ok-do_job.ensures.acts v.now h begun))
    (λ first v put r y. do_puts c.laws_of_runs.ensures a b s c.do_job.new.system p c.args.give first v put (opened.plan ∙ move.plan) r y (on first v r) (leads first v r) c.in_ok-do_job.ensures.tallies))
