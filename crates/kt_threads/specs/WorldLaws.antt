-- The laws of worlds and of runs, of crates below, that proofs rest on.
use Rattle.std.specs.Prelude.{◌≡◌, ◌≢◌, ℕ, ℤ, true, None, Some, IfSome, List, ◌++◌}
use Rattle.kt_core.specs.Making.{MakesStep}
use Rattle.kt_core.specs.Shown.{Mirrors}
use Rattle.kt_core.specs.Worlds.{World, IsSameWorld, IsWorldAtRest}
use Rattle.kt_object.specs.Holdings.{Content}
use Rattle.kt_object.specs.Value.{offered}
use Rattle.kt_plan.specs.Limits.{Planned, IsPlan}
use Rattle.kt_plan.specs.declared.steps.Act.{Act}
use Rattle.kt_plan.specs.declared.steps.Give.{Give}
use Rattle.kt_plan.specs.declared.steps.Look.TheVariants.{NeedsBody}
use Rattle.kt_plan.specs.declared.steps.Step.{Step}
use Rattle.kt_plan.specs.declared.steps.Told.{Told}
use Rattle.kt_promises.specs.Looks.{look}
use Rattle.kt_promises.specs.Offers.{GivesOffer, GivesOffers, SendsWhatIsOffered}
use Rattle.kt_promises.specs.Progress.{Progress, progress_at_start}
use Rattle.kt_promises.specs.Runs.{Move, RunReaches, after_moves}
use Rattle.kt_promises.specs.Steps.{is_at_rest, process_of_step, progress_after}
use Rattle.kt_promises.specs.Told.{told_at}
use Rattle.kt_run.specs.Objects.{Belongings, rules_of, first_of, HoldsDue, IsDone}
use Rattle.kt_run.specs.Runs.{IsToldStep}
use Rattle.kt_run.specs.Telling.{numbered_rows_by, numbered_rows_told, told_here, IsToldAs, TellsItsRows}
use Rattle.kt_spacetime.specs.declared.event.Event.{Event}
use Rattle.kt_machine.specs.Done.{done}
use Rattle.kt_machine.specs.Values.{Rules, due}

-- what kt_core, kt_run and kt_promises say of worlds, their steps and their runs, by their laws
pub record WorldLaws : Type 0 where
  -- runs_of_worlds
  pub rest : (w : World) (first : ℕ) (v : Progress) → Mirrors w.agenda w.system first v → IsWorldAtRest w
      → is_at_rest w.agenda.plan v ≡ true
  pub same : (old new : World) (first : ℕ) (v : Progress) → IsSameWorld new old → Mirrors old.agenda old.system first v
      → Mirrors new.agenda new.system first v
  -- steps_of_worlds
  pub told : (old new : World) (told : Told) (give : Give) (first : ℕ) (v : Progress) → IsToldStep old told give new
      → Mirrors old.agenda old.system first v
      → IsToldAs told (told_at old.agenda.plan v (record { step = told.step; give = give }))
  pub rows : (old new : World) (told : Told) (give : Give) (first : ℕ) (v : Progress) → IsToldStep old told give new
      → Mirrors old.agenda old.system first v
      → TellsItsRows told v.now.log (progress_after old.agenda.plan v told.step give).now.log
  pub numbered : (told : Told) (before after : List Event) (p : ℕ) → TellsItsRows told before after
      → numbered_rows_by p after ≡ numbered_rows_by p before ++ numbered_rows_told (told_here p told)
  pub its : (old new : World) (step : Step) (give : Give) (acts : List Act) (first : ℕ) (v : Progress) (objects : List Content)
      (before after : Belongings) → MakesStep old step give acts new → Mirrors old.agenda old.system first v
      → IsDone acts before after → HoldsDue objects v.now.log (process_of_step step) before
      → HoldsDue objects (progress_after old.agenda.plan v step give).now.log (process_of_step step) after
  pub others : (old new : World) (step : Step) (give : Give) (acts : List Act) (first : ℕ) (v : Progress)
      (objects : List Content) (p : ℕ) (has : Belongings) → MakesStep old step give acts new
      → Mirrors old.agenda old.system first v → p ≢ process_of_step step → HoldsDue objects v.now.log p has
      → HoldsDue objects (progress_after old.agenda.plan v step give).now.log p has
  pub gives : (old : World) (step : Step) (give : Give) (first : ℕ) (v : Progress) (objects : List Content) (has : Belongings)
      → Mirrors old.agenda old.system first v → HoldsDue objects v.now.log (process_of_step step) has
      → (look old.agenda.plan v step ≡ NeedsBody → IfSome has.present (λ c. give.body ≡ offered c.kind c.value))
      → GivesOffer (λ (_ : ℕ). rules_of (first_of objects)) old.agenda.plan v step give
  -- values_of_runs
  pub rested : (r : Rules (List ℤ)) (plan : Planned) (first : ℕ) (w : Progress) (p : ℕ) → IsPlan plan → RunReaches plan first w
      → is_at_rest plan w ≡ true → (due r (done w.now.log) p).tentative ≡ None
  pub offers : (rules : ℕ → Rules (List ℤ)) (plan : Planned) (first : ℕ) (moves : List Move) (w : Progress) → IsPlan plan
      → after_moves plan (progress_at_start plan first) moves ≡ Some w → GivesOffers rules plan (progress_at_start plan first) moves
      → SendsWhatIsOffered rules plan w.now.log
