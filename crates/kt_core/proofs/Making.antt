-- What a step that is made means, by what it does to the runs that lead to its world.
use Rattle.std.proofs.Common.{◌≡◌, ◌∙◌, ◌≤◌, ℕ, ℤ, true, false, Some, None, List, length, sym, subst}
use Rattle.std.specs.Prelude.{slice_get}
use Rattle.kt_plan.specs.Limits.{IsPlan, Planned}
use Rattle.kt_spacetime.specs.declared.event.Event.{Event}
use Rattle.kt_spacetime.specs.declared.event.Event.TheVariants.{Closed, Unwilling}
use Rattle.kt_meaning.specs.Past.{past, is_rollback, is_committed}
use Rattle.kt_plan.specs.declared.steps.Step.{Step}
use Rattle.kt_plan.specs.declared.steps.Give.{Give}
use Rattle.kt_plan.specs.declared.steps.Act.{Act}
use Rattle.kt_manager.specs.ShownActs.{acts_shown}
use Rattle.kt_machine.specs.Done.{done}
use Rattle.kt_machine.specs.Values as values
use Rattle.kt_machine.specs.Values.{Rules, due, does_all, can_all, closing}
use Rattle.kt_promises.specs.Progress.{Progress}
use Rattle.kt_promises.specs.Steps.{enabled, progress_after, process_of_step}
use Rattle.kt_promises.specs.StepActs.{acts_of_step}
use Rattle.kt_promises.specs.Tallies.{Tallies, tallies_after}
use Rattle.kt_core.specs.PlanLaws.{PlanLaws}
use Rattle.kt_core.specs.Making.{DiscardsAtAborts, LeadsToDue, LeadsRun, MakesStep}
use Rattle.kt_core.specs.Shown.{Mirrors, MirrorsPut, IsReached}
use Rattle.kt_core.specs.Worlds.{World, HasDone, Settles, step_refusal}
use Rattle.kt_core.proofs.Enabled.{enabled_is, enabled_if}

-- one run, which the step leads on, and of which it asks these acts
module _ (laws : PlanLaws) (old new : World) (step : Step) (give : Give) (acts : List Act) (allowed : step_refusal old step ≡ None) (first : ℕ) (v : Progress)
    (r : Mirrors old.agenda old.system first v)
    (next : Mirrors new.agenda new.system first (progress_after old.agenda.plan v step give))
    (asks : acts_shown acts ≡ acts_of_step old.agenda.plan v step give (process_of_step step)) where
  abbrev plan : Planned
  plan = old.agenda.plan

  abbrev x : Step
  x = step

  abbrev g : Give
  g = give

  limits : IsPlan plan
  limits = r.limits

  on : enabled plan v x ≡ true
  on = sym (enabled_is laws old first v r step) ∙ enabled_if old step allowed

  pub leads_run : ((put : Tallies) → MirrorsPut old.agenda old.system first v put → MirrorsPut new.agenda new.system first (progress_after plan v step give) (tallies_after plan v step give put)) → LeadsRun old step give acts new first v
  leads_run puts = record {
    enabled = on;
    leads = next;
    asks = asks;
    puts = puts;
    raised = λ put y. laws.raised plan first v put x g limits y.run on;
    unwilling = λ t p k cause there late. laws.unwilling plan first v x g t p k cause limits r.reached on
        (subst (λ (l : List Event). slice_get l t ≡ Some (Unwilling p k cause)) next.now.log there)
        (subst (λ (l : List Event). length l ≤ t) r.now.log late);
  }

  pub discards : DiscardsAtAborts old acts new
  discards i p k there late aborted =
      subst (λ (l : List Event). acts_shown acts ≡ closing (is_rollback (past l) k) false) (sym next.now.log)
      (asks ∙ laws.aborts plan first v x g i p k limits r.reached on
      (subst (λ (l : List Event). slice_get l i ≡ Some (Closed p k)) next.now.log there)
      (subst (λ (l : List Event). length l ≤ i) r.now.log late)
      (subst (λ (l : List Event). is_committed (past l) k ≡ false) next.now.log aborted))

  pub leads_to_due : (rules : Rules (List ℤ)) → LeadsToDue rules old step acts new
  leads_to_due rules = record {
    can = subst (λ (l : List Event). can_all rules (due rules (done l) (process_of_step step)) (acts_shown acts) ≡ true) (sym r.now.log)
        (subst (λ (a : List values.Act). can_all rules (due rules (done v.now.log) (process_of_step step)) a ≡ true) (sym asks)
        (laws.can rules plan first v x g (process_of_step step) limits r.reached on));
    its = subst (λ (l : List Event). does_all rules (due rules (done l) (process_of_step step)) (acts_shown acts) ≡ due rules (done new.system.rows.rows) (process_of_step step)) (sym r.now.log)
        (subst (λ (l : List Event). does_all rules (due rules (done v.now.log) (process_of_step step)) (acts_shown acts) ≡ due rules (done l) (process_of_step step)) (sym next.now.log)
        (subst (λ (a : List values.Act). does_all rules (due rules (done v.now.log) (process_of_step step)) a ≡ due rules (done (progress_after plan v x g).now.log) (process_of_step step)) (sym asks)
        (laws.lead rules plan first v x g (process_of_step step) limits r.reached on)));
    others = λ p n.
        let idle = laws.others plan first v x g p limits r.reached on n in
        let same : due rules (done (progress_after plan v x g).now.log) p ≡ due rules (done v.now.log) p =
        sym (subst (λ (a : List values.Act). does_all rules (due rules (done v.now.log) p) a ≡ due rules (done (progress_after plan v x g).now.log) p) idle
        (laws.lead rules plan first v x g p limits r.reached on)) in
        subst (λ (l : List Event). due rules (done new.system.rows.rows) p ≡ due rules (done l) p) (sym r.now.log)
        (subst (λ (l : List Event). due rules (done l) p ≡ due rules (done v.now.log) p) (sym next.now.log) same);
  }

-- a step that leads on each run to its world, and asks these acts of it
pub makes_step : PlanLaws → (old new : World) (step : Step) (give : Give) (acts : List Act) → IsReached old.agenda old.system → step_refusal old step ≡ None
    → HasDone old.agenda new.agenda step → Settles old new
    → ((first : ℕ) (v : Progress) → Mirrors old.agenda old.system first v
    → Mirrors new.agenda new.system first (progress_after old.agenda.plan v step give))
    → ((first : ℕ) (v : Progress) → Mirrors old.agenda old.system first v
    → acts_shown acts ≡ acts_of_step old.agenda.plan v step give (process_of_step step))
    → ((first : ℕ) (v : Progress) (put : Tallies) → Mirrors old.agenda old.system first v → MirrorsPut old.agenda old.system first v put
    → MirrorsPut new.agenda new.system first (progress_after old.agenda.plan v step give) (tallies_after old.agenda.plan v step give put))
    → MakesStep old step give acts new
makes_step laws old new step give acts reached allowed done settled leads asks puts =
    let first = reached.0 in
    let v = reached.1 in
    let r = reached.2 in
    record {
      done = done;
      settled = settled;
      runs = λ n w s. leads_run laws old new step give acts allowed n w s (leads n w s) (asks n w s) (λ put y. puts n w put s y);
      aborts = discards laws old new step give acts allowed first v r (leads first v r) (asks first v r);
      due = leads_to_due laws old new step give acts allowed first v r (leads first v r) (asks first v r);
    }
