use Rattle.std.proofs.Common.{ap, length}
use Rattle.kt_plan.specs.Limits.{Planned, IsPlan}
use Rattle.std.proofs.Common.{◌∙◌, ℕ, List, arith, sym, subst, refl, slice_index_or}
use Rattle.kt_process.specs.Turns.{IsFresh}
use Rattle.kt_system.specs.Systems.{state_of}
use Rattle.kt_machine.specs.Transition.{opening_seen}
use Rattle.kt_system.specs.Shown.{ShowsState}
use Rattle.kt_promises.specs.Progress.{progress_at_start}
use Rattle.kt_core.specs.Agendas.{IsNextOf, agenda_place}
use Rattle.kt_core.specs.Shown.{Mirrors}
use Rattle.kt_promises.specs.Tallies.{no_tallies}
use Rattle.kt_core.proofs.Leading.{start_leads, start_puts}
use Rattle.kt_core.proofs.Phases.{least_stays}
use Rattle.kt_core.proofs.world.World.make.Goals as goal

pub returns-clause-opening : goal.returns-clause-opening
returns-clause-opening c =
    let made = c.in_ok-agenda.ensures in
    let opened = c.open_next.ensures in
    let system = c.in_ok-system.ensures in
    record {
      plans = opened.plan ∙ made.plan;
      next = λ p low. subst (λ (next : List ℕ). IsNextOf c.args.plan.commands p 0 (slice_index_or next p 0)) (sym opened.next) (made.next p low);
      phase = λ least l. opened.opens least (least_stays c.in_ok-agenda.agenda c.open_next.new.self least opened.plan opened.next l) (let zero = made.phase in omega arith);
      states = λ p low. subst (λ (size : ℕ). IsFresh size c.args.used (state_of c.in_ok-system.system p)) (sym system.size) (system.states p (let size = system.size in omega arith));
      channels = system.channels;
      held = system.held;
      kept = system.kept;
      rows = system.rows;
      begun = system.begun;
      tallies = system.tallies;
      full = refl;
    }

pub returns-clause-starts : goal.returns-clause-starts
returns-clause-starts c =
    let made = c.in_ok-agenda.ensures in
    let opened = c.open_next.ensures in
    let first = c.in_ok-agenda.agenda in
    let last = c.open_next.new.self in
    let size = c.size-size.ensures in
    subst (λ (plan : Planned). Mirrors last c.in_ok-system.system c.args.used (progress_at_start plan c.args.used)) made.plan
    (start_leads c.laws_of_runs.ensures first last c.in_ok-system.system c.args.used (subst (λ (plan : Planned). IsPlan plan) (sym made.plan) size.plan) (c.in_ok-system.ensures.size ∙ (size.size ∙ ap (λ (plan : Planned). length plan.names) (sym made.plan))) c.processes-processes.ensures.numbered
    (subst (λ (n : ℕ). ShowsState c.in_ok-system.system (opening_seen n c.args.used)) (size.size ∙ ap (λ (plan : Planned). length plan.names) (sym made.plan)) c.in_ok-system.ensures.shows)
    (λ p low. subst (λ (plan : Planned). IsNextOf plan.commands p 0 (agenda_place first p)) (sym made.plan) (made.next p low))
    opened.plan opened.next
    (λ least l. opened.opens least (least_stays first last least opened.plan opened.next l) (let zero = made.phase in omega (arith, zero)))
    (let room = c.in_ok-system.ensures.instances in
    let count = c.len.ensures in
    let seen = ap (λ (plan : Planned). length plan.commands) c.plan.view_is in
    let same = ap (λ (plan : Planned). length plan.commands) made.plan in
    omega (arith, room, count, seen, same)))

pub invariant_of-result : goal.invariant_of-result
invariant_of-result c =
    let made = c.in_ok-agenda.ensures in
    let opened = c.open_next.ensures in
    let system = c.in_ok-system.ensures in
    record {
      reached = (
        c.args.used,
        progress_at_start c.args.plan c.args.used,
        returns-clause-starts c,
        no_tallies,
        start_puts c.open_next.new.self c.in_ok-system.system c.args.used c.args.plan (opened.plan ∙ made.plan) system.tallies,
      );
      size = system.size ∙ (c.size-size.ensures.size ∙ ap (λ (plan : Planned). length plan.names) (sym (opened.plan ∙ made.plan)));
      rows = c.requires;
    }
