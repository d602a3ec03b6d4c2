-- What a look at a step tells.
use Rattle.std.specs.Prelude.{◌≡◌, ◌↔◌, ℕ, true, false, Some, List, [], ◌∷◌}
use Rattle.kt_spacetime.specs.declared.event.Event.TheVariants.{Sent}
use Rattle.kt_plan.specs.Limits.{Planned}
use Rattle.kt_plan.specs.declared.steps.Give.{Give}
use Rattle.kt_plan.specs.declared.steps.Look.{Look}
use Rattle.kt_plan.specs.declared.steps.Look.TheVariants.{Idle, NeedsSave, NeedsBody}
use Rattle.kt_plan.specs.declared.steps.Step.{Step}
use Rattle.kt_promises.specs.Looks.{look}
use Rattle.kt_promises.specs.Progress.{Progress}
use Rattle.kt_promises.specs.Rows.{has_sent_row, has_took_row, is_offer_step}
use Rattle.kt_promises.specs.Runs.{AreOfOthers, Move, after_moves}
use Rattle.kt_promises.specs.StepActs.{rows_added}
use Rattle.kt_promises.specs.Steps.{enabled, process_of_step, progress_after}

-- what a look at a step tells of a run that has come to v
pub record TellsOfStep (plan : Planned) (v : Progress) (step : Step) (found : Look) : Type 0 where
  -- it is idle exactly where the step can't be made
  pub idle : (found ≡ Idle) ↔ (enabled plan v step ≡ false)
  -- a tentative checkpoint is taken exactly where a save is needed, and the object is able
  pub saves : (give : Give) → enabled plan v step ≡ true
      → (has_took_row (rows_added plan v step give) ≡ true)
      ↔ ((found ≡ NeedsSave) × (give.able ≡ true))
  -- what the object offers is sent exactly where a body is needed
  pub sends : (give : Give) → enabled plan v step ≡ true
      → ((is_offer_step plan v step ≡ true) × (has_sent_row (rows_added plan v step give) ≡ true))
      ↔ (found ≡ NeedsBody)
  -- then the send is all that the step adds, and it has the body that is given
  pub offered : (give : Give) → found ≡ NeedsBody
      → (q : ℕ) × (rows_added plan v step give ≡ Sent (process_of_step step) q give.body ∷ [])
  -- and the object is up
  pub up : found ≡ NeedsBody → (v.now.states (process_of_step step)).up ≡ true
  -- of what is given, only that counts which is needed
  pub counts : (a b : Give) → enabled plan v step ≡ true → (found ≡ NeedsSave → a.able ≡ b.able)
      → (found ≡ NeedsBody → a.body ≡ b.body)
      → progress_after plan v step a ≡ progress_after plan v step b
  -- a step that can be made needs the same after any moves of other processes
  pub waits : (moves : List Move) (later : Progress) → enabled plan v step ≡ true
      → AreOfOthers (process_of_step step) moves → after_moves plan v moves ≡ Some later
      → look plan later step ≡ found
