-- The laws of runs of kt_promises that proofs rest on.
use Rattle.std.specs.Prelude.{◌≡◌, ◌≢◌, ◌≤◌, ◌<◌, ◌+◌, ◌&&◌, ℕ, ℤ, true, false, Some, None, is_some, List, [], ◌∷◌, ◌++◌, length, slice_get}
use Rattle.kt_plan.specs.Failures.{failures_of}
use Rattle.kt_plan.specs.Limits.{Planned, IsPlan}
use Rattle.kt_plan.specs.declared.commands.Command.{Command}
use Rattle.kt_plan.specs.declared.steps.Give.{Give}
use Rattle.kt_plan.specs.declared.steps.Look.TheVariants.{NeedsBody}
use Rattle.kt_plan.specs.declared.steps.Step.{Step}
use Rattle.kt_plan.specs.declared.steps.Step.TheVariants.{Do}
use Rattle.kt_promises.specs.Defaults.{default_step}
use Rattle.kt_meaning.specs.Follows.{FollowsPlan, command_rows}
use Rattle.kt_promises.specs.Looks.{uses_able, uses_body, look}
use Rattle.kt_promises.specs.Offers.{GivesOffers, SendsWhatIsOffered}
use Rattle.kt_promises.specs.Progress.{Progress, progress_at_start, next_command}
use Rattle.kt_promises.specs.Rows.{AreRowsOfStep, has_sent_row, is_offer_step}
use Rattle.kt_promises.specs.Runs.{Move, GoesOn, RunReaches, after_moves}
use Rattle.kt_promises.specs.StepActs.{acts_of_step, keeps_only_first, rows_added}
use Rattle.kt_promises.specs.Steps.{enabled, is_at_rest, process_of_step, progress_after}
use Rattle.kt_promises.specs.Told.{told_by, told_by_move}
use Rattle.kt_run.specs.Objects.{spares_taken}
use Rattle.kt_spacetime.specs.Events.{process_of}
use Rattle.kt_spacetime.specs.declared.event.Event.{Event}
use Rattle.kt_machine.specs.Done.{done}
use Rattle.kt_machine.specs.Values as values
use Rattle.kt_machine.specs.Values.{Rules, due}

-- what kt_promises says of every run, by its laws
pub record RunLaws : Type 0 where
  -- progress_of_runs
  pub next : (plan : Planned) (first : ℕ) (w : Progress) (x : Step) (give : Give) → IsPlan plan → RunReaches plan first w
      → enabled plan w x ≡ true → RunReaches plan first (progress_after plan w x give)
  -- never_stuck
  pub at_rest : (plan : Planned) (first : ℕ) (w : Progress) → IsPlan plan → RunReaches plan first w
      → ((x : Step) → enabled plan w x ≡ false) → is_at_rest plan w ≡ true
  -- logs_follow_plans
  pub follows : (plan : Planned) (first : ℕ) (w : Progress) → IsPlan plan → RunReaches plan first w
      → is_at_rest plan w ≡ true → FollowsPlan plan w.now.log
  pub counts : (plan : Planned) (first : ℕ) (w : Progress) (p : ℕ) → IsPlan plan → RunReaches plan first w
      → length (command_rows p w.now.log) ≡ w.done p
  -- phases_of_runs
  pub in_phase : (plan : Planned) (first : ℕ) (w : Progress) (p : ℕ) → IsPlan plan → RunReaches plan first w
      → enabled plan w (Do p) ≡ true → (c : Command) × (next_command plan w p ≡ Some c) × (c.phase ≡ w.phase)
  -- rows_of_runs
  pub fit : (plan : Planned) (first : ℕ) (w : Progress) (x : Step) (give : Give) → IsPlan plan → RunReaches plan first w
      → enabled plan w x ≡ true → AreRowsOfStep plan w x give (rows_added plan w x give)
  pub sends : (plan : Planned) (first : ℕ) (w : Progress) (x : Step) (give : Give) → IsPlan plan → RunReaches plan first w
      → enabled plan w x ≡ true → (is_offer_step plan w x && has_sent_row (rows_added plan w x give)) ≡ uses_body (look plan w x)
  -- steps_of_runs
  pub up : (plan : Planned) (w : Progress) (x : Step) → look plan w x ≡ NeedsBody
      → (w.now.states (process_of_step x)).up ≡ true
  pub gives : (plan : Planned) (first : ℕ) (w : Progress) (x : Step) (a b : Give) → IsPlan plan → RunReaches plan first w
      → enabled plan w x ≡ true → (uses_able (look plan w x) ≡ true → a.able ≡ b.able)
      → (uses_body (look plan w x) ≡ true → a.body ≡ b.body) → progress_after plan w x a ≡ progress_after plan w x b
  -- acts_of_runs
  pub grows : (plan : Planned) (first : ℕ) (w : Progress) (x : Step) (give : Give) → IsPlan plan → RunReaches plan first w
      → enabled plan w x ≡ true → (progress_after plan w x give).now.log ≡ w.now.log ++ rows_added plan w x give
  pub rows : (plan : Planned) (first : ℕ) (w : Progress) (x : Step) (give : Give) (i : ℕ) (row : Event) → IsPlan plan
      → RunReaches plan first w → enabled plan w x ≡ true → slice_get (rows_added plan w x give) i ≡ Some row
      → process_of row ≡ process_of_step x
  pub others : (plan : Planned) (first : ℕ) (w : Progress) (x : Step) (give : Give) (p : ℕ) → IsPlan plan
      → RunReaches plan first w → enabled plan w x ≡ true → p ≢ process_of_step x → acts_of_step plan w x give p ≡ []
  -- told_of_runs
  pub told_more : (plan : Planned) (p : ℕ) (moves : List Move) (v w : Progress) (x : Move) → after_moves plan v moves ≡ Some w
      → told_by plan v p (moves ++ x ∷ []) ≡ told_by plan v p moves ++ told_by_move plan w p x
  -- runs_that_go_on
  pub next_default : (plan : Planned) (first : ℕ) (given more : List Move) (w : Progress) (x : Step) (give : Give) → IsPlan plan
      → GoesOn plan first given more w → default_step plan w ≡ Some x
      → GoesOn plan first given (more ++ record { step = x; give = give } ∷ []) (progress_after plan w x give)
  pub limits : (plan : Planned) (first : ℕ) (given more : List Move) (w : Progress) → IsPlan plan → (length plan.names) ≤ 64
      → length plan.commands ≤ 4096 → length w.now.log ≤ 16777216 → GoesOn plan first given more w
      → length given + length more < 67108864
  pub no_default : (plan : Planned) (first : ℕ) (given more : List Move) (w : Progress) → IsPlan plan
      → GoesOn plan first given more w → default_step plan w ≡ None → is_at_rest plan w ≡ true
  -- values_of_runs
  pub lead : (r : Rules (List ℤ)) (plan : Planned) (first : ℕ) (w : Progress) (x : Step) (give : Give) (p : ℕ) → IsPlan plan
      → RunReaches plan first w → enabled plan w x ≡ true
      → values.does_all r (due r (done w.now.log) p) (acts_of_step plan w x give p)
      ≡ due r (done (progress_after plan w x give).now.log) p
  pub can : (r : Rules (List ℤ)) (plan : Planned) (first : ℕ) (w : Progress) (x : Step) (give : Give) (p : ℕ) → IsPlan plan
      → RunReaches plan first w → enabled plan w x ≡ true
      → values.can_all r (due r (done w.now.log) p) (acts_of_step plan w x give p) ≡ true
  pub keeps : (plan : Planned) (first : ℕ) (w : Progress) (x : Step) (give : Give) (p : ℕ) → IsPlan plan
      → RunReaches plan first w → enabled plan w x ≡ true → keeps_only_first give.able (acts_of_step plan w x give p) ≡ true
  pub taken : (r : Rules (List ℤ)) (plan : Planned) (first : ℕ) (w : Progress) (x : Step) (give : Give) (p : ℕ) → IsPlan plan
      → RunReaches plan first w → enabled plan w x ≡ true
      → spares_taken r (progress_after plan w x give).now.log p
      ≡ spares_taken r w.now.log p + values.spares r (due r (done w.now.log) p) (acts_of_step plan w x give p)
  pub spares : (r : Rules (List ℤ)) (plan : Planned) (first : ℕ) (w : Progress) (p : ℕ) → IsPlan plan → RunReaches plan first w
      → spares_taken r w.now.log p ≤ failures_of plan.commands p
  pub objects : (r : Rules (List ℤ)) (plan : Planned) (first : ℕ) (w : Progress) (p : ℕ) → IsPlan plan
      → RunReaches plan first w → is_some (due r (done w.now.log) p).object ≡ (w.now.states p).up
  pub rested : (r : Rules (List ℤ)) (plan : Planned) (first : ℕ) (w : Progress) (p : ℕ) → IsPlan plan → RunReaches plan first w
      → is_at_rest plan w ≡ true → (due r (done w.now.log) p).tentative ≡ None
  pub offers : (rules : ℕ → Rules (List ℤ)) (plan : Planned) (first : ℕ) (moves : List Move) (w : Progress) → IsPlan plan
      → after_moves plan (progress_at_start plan first) moves ≡ Some w → GivesOffers rules plan (progress_at_start plan first) moves
      → SendsWhatIsOffered rules plan w.now.log
