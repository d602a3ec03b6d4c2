-- The laws of runs that lemmas rest on: whoever cites such a lemma calls these laws.
use Rattle.std.specs.Prelude.{◌≡◌, ◌≢◌, ◌↔◌, ℕ, true, false, Some, None, List, map}
use Rattle.kt_object.specs.Holdings.{Content}
use Rattle.kt_plan.specs.Limits.{Planned, IsPlan}
use Rattle.kt_plan.specs.declared.steps.Give.{Give}
use Rattle.kt_plan.specs.declared.steps.Step.{Step}
use Rattle.kt_plan.specs.declared.steps.Step.TheVariants.{Take}
use Rattle.kt_promises.specs.Defaults.{default_step}
use Rattle.kt_promises.specs.Offers.{SendsWhatIsOffered}
use Rattle.kt_promises.specs.Progress.{Progress, progress_at_start}
use Rattle.kt_promises.specs.Runs.{Move, RunReaches, after_moves}
use Rattle.kt_promises.specs.Steps.{enabled, is_at_rest, progress_after}
use Rattle.kt_promises.specs.Told.{rows_along}
use Rattle.kt_run.specs.Objects.{rules_by}
use Rattle.kt_run.specs.OneRun.{SavesAll}

-- `progress_of_runs`: next; `steps_of_runs`: none, `of_another`; `never_stuck`: exactly; `told_of_runs`: log; `one_run`: ends
pub record RunLaws : Type 0 where
  pub next : (plan : Planned) (first : ℕ) (w : Progress) (x : Step) (give : Give) → IsPlan plan → RunReaches plan first w → enabled plan w x ≡ true → RunReaches plan first (progress_after plan w x give)
  pub none : (plan : Planned) (first : ℕ) (w : Progress) → IsPlan plan → RunReaches plan first w → (default_step plan w ≡ None) ↔ ((x : Step) → enabled plan w x ≡ false)
  pub of_another : (plan : Planned) (first : ℕ) (w : Progress) (p q : ℕ) → IsPlan plan → RunReaches plan first w → enabled plan w (Take p q) ≡ true → p ≢ q
  pub exactly : (plan : Planned) (first : ℕ) (w : Progress) → IsPlan plan → RunReaches plan first w → (is_at_rest plan w ≡ true) ↔ (default_step plan w ≡ None)
  pub log : (plan : Planned) (first : ℕ) (moves : List Move) (w : Progress) → IsPlan plan → after_moves plan (progress_at_start plan first) moves ≡ Some w → w.now.log ≡ rows_along plan (progress_at_start plan first) moves
  pub ends : (plan : Planned) (cast : List (List Content)) (xs ys : List Move) (w v : Progress) → IsPlan plan → after_moves plan (progress_at_start plan 0) xs ≡ Some w → after_moves plan (progress_at_start plan 0) ys ≡ Some v
      → map (λ (m : Move). m.step) xs ≡ map (λ (m : Move). m.step) ys → SendsWhatIsOffered (rules_by cast) plan w.now.log → SendsWhatIsOffered (rules_by cast) plan v.now.log
      → SavesAll plan (progress_at_start plan 0) xs → SavesAll plan (progress_at_start plan 0) ys → w ≡ v
