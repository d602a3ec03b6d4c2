-- The laws of runs of kt_promises that proofs rest on.
use Rattle.std.specs.Prelude.{◌≡◌, ◌≢◌, ◌⊎◌, ◌↔◌, ◌<◌, ◌≤◌, ◌+◌, ◌*◌, ◌-◌, ℕ, ℤ, true, false, Some, None, List, [], ◌∷◌, length, slice_get}
use Rattle.kt_base.specs.declared.words.Cause.{Cause}
use Rattle.kt_meaning.specs.Past.{past, is_rollback, is_committed, at_one}
use Rattle.kt_plan.specs.Limits.{Planned, IsPlan}
use Rattle.kt_plan.specs.declared.commands.Command.{Command}
use Rattle.kt_plan.specs.declared.steps.Give.{Give}
use Rattle.kt_plan.specs.declared.steps.Step.{Step}
use Rattle.kt_plan.specs.declared.steps.Step.TheVariants.{Do, Take}
use Rattle.kt_promises.specs.Defaults.{default_step}
use Rattle.kt_promises.specs.Hindrances.{hindrance}
use Rattle.kt_promises.specs.declared.hindrances.Hindrance.TheVariants.{NoCommand}
use Rattle.kt_promises.specs.Messages.{AreMessagesTo}
use Rattle.kt_promises.specs.Order.{comes_before, next_place}
use Rattle.kt_promises.specs.Progress.{Progress, is_quiet, next_command, progress_at_start}
use Rattle.kt_promises.specs.Rows.{AreRowsOfStep}
use Rattle.kt_promises.specs.Runs.{IsSameButPhase, RunReaches, protocol_steps}
use Rattle.kt_promises.specs.StepActs.{acts_of_step, rows_added}
use Rattle.kt_promises.specs.Steps.{enabled, is_at_rest, process_of_step, progress_after, protocol_step}
use Rattle.kt_promises.specs.Tallies.{Tallies, IsRaised, RunPuts, tallies_after}
use Rattle.kt_promises.specs.Unwilling.{IsUnwillingStep}
use Rattle.kt_promises.specs.Work.{count_begins}
use Rattle.kt_protocol.specs.States as machine
use Rattle.kt_machine.specs.Transition.{opening_seen, transition}
use Rattle.kt_spacetime.specs.declared.event.Event.TheVariants.{Closed, Unwilling}
use Rattle.kt_tables.specs.Calls.{Speaks}
use Rattle.kt_machine.specs.Acts.{stepper}
use Rattle.kt_machine.specs.Done.{done}
use Rattle.kt_machine.specs.SeenActs.{seen_acts}
use Rattle.kt_machine.specs.Values.{Rules, due, can_all, closing, does_all}

-- what kt_promises says of every run, by its laws
pub record PlanLaws : Type 0 where
  -- progress_of_runs
  pub next : (plan : Planned) (first : ℕ) (w : Progress) (x : Step) (give : Give) → IsPlan plan → RunReaches plan first w
      → enabled plan w x ≡ true → RunReaches plan first (progress_after plan w x give)
  -- progress_after_steps
  pub opens : (plan : Planned) (first : ℕ)
      → IsSameButPhase (record { now = opening_seen (length plan.names) first; done = λ p. 0; phase = 0 })
      (progress_at_start plan first)
  pub takes : (plan : Planned) (w : Progress) (p q : ℕ) (give : Give)
      → IsSameButPhase (record w { now = transition w.now (machine.Take p q give.able) }) (progress_after plan w (Take p q) give)
  pub does : (plan : Planned) (w : Progress) (p : ℕ) (give : Give) (c : Command) → next_command plan w p ≡ Some c
      → IsSameButPhase (record w { now = transition w.now (protocol_step p c.job give); done = at_one p (w.done p + 1) w.done })
      (progress_after plan w (Do p) give)
  -- places_of_commands
  pub place : (plan : Planned) (w : Progress) (p : ℕ)
      → slice_get plan.commands (next_place plan w p) ≡ next_command plan w p
  pub there : (plan : Planned) (first : ℕ) (w : Progress) (p : ℕ) (c : Command) → IsPlan plan → RunReaches plan first w
      → next_command plan w p ≡ Some c → p < length plan.names
  -- phases_of_runs
  pub ahead : (plan : Planned) (first : ℕ) (w : Progress) (p : ℕ) (c : Command) → IsPlan plan → RunReaches plan first w
      → next_command plan w p ≡ Some c → w.phase ≤ c.phase
  pub attained : (plan : Planned) (first : ℕ) (w : Progress) (p : ℕ) (c : Command) → IsPlan plan → RunReaches plan first w
      → is_quiet (length plan.names) w.now ≡ true → next_command plan w p ≡ Some c
      → (q : ℕ) × (d : Command) × (q < length plan.names) × (next_command plan w q ≡ Some d) × (d.phase ≡ w.phase)
  pub forward : (plan : Planned) (first : ℕ) (w : Progress) (x : Step) (give : Give) → IsPlan plan → RunReaches plan first w
      → enabled plan w x ≡ true → w.phase ≤ (progress_after plan w x give).phase
  pub quiet : (plan : Planned) (first : ℕ) (w : Progress) (x : Step) (give : Give) → IsPlan plan → RunReaches plan first w
      → enabled plan w x ≡ true → w.phase < (progress_after plan w x give).phase
      → is_quiet (length plan.names) (progress_after plan w x give).now ≡ true
  -- processes_of_runs
  pub speaks_next : (plan : Planned) (first : ℕ) (w : Progress) (x : machine.ProtocolStep) (p : ℕ) → IsPlan plan
      → RunReaches plan first w → Speaks ((transition w.now x).states p).calls
  -- protocol_of_runs
  pub seen_acts : (plan : Planned) (first : ℕ) (w : Progress) (x : Step) (give : Give) (y : machine.ProtocolStep) → IsPlan plan
      → RunReaches plan first w → enabled plan w x ≡ true → protocol_steps plan w x give ≡ y ∷ []
      → acts_of_step plan w x give (stepper y) ≡ seen_acts w.now y
  -- messages_of_runs
  pub held : (plan : Planned) (first : ℕ) (w : Progress) (p q : ℕ) → IsPlan plan → RunReaches plan first w
      → AreMessagesTo first w.now.log q p (w.now.held q p)
  -- rows_of_runs
  pub fit : (plan : Planned) (first : ℕ) (w : Progress) (x : Step) (give : Give) → IsPlan plan → RunReaches plan first w
      → enabled plan w x ≡ true → AreRowsOfStep plan w x give (rows_added plan w x give)
  -- acts_of_runs
  pub others : (plan : Planned) (first : ℕ) (w : Progress) (x : Step) (give : Give) (p : ℕ) → IsPlan plan
      → RunReaches plan first w → enabled plan w x ≡ true → p ≢ process_of_step x → acts_of_step plan w x give p ≡ []
  pub aborts : (plan : Planned) (first : ℕ) (w : Progress) (x : Step) (give : Give) (i p k : ℕ) → IsPlan plan
      → RunReaches plan first w → enabled plan w x ≡ true
      → slice_get (progress_after plan w x give).now.log i ≡ Some (Closed p k) → length w.now.log ≤ i
      → is_committed (past (progress_after plan w x give).now.log) k ≡ false
      → acts_of_step plan w x give (process_of_step x)
      ≡ closing (is_rollback (past (progress_after plan w x give).now.log) k) false
  -- steps_of_runs
  pub none : (plan : Planned) (first : ℕ) (w : Progress) → IsPlan plan → RunReaches plan first w
      → (default_step plan w ≡ None) ↔ ((x : Step) → enabled plan w x ≡ false)
  pub only : (plan : Planned) (first : ℕ) (w : Progress) (x : Step) → IsPlan plan → RunReaches plan first w
      → enabled plan w x ≡ true → ((y : Step) → enabled plan w y ≡ true → (x ≡ y) ⊎ (comes_before plan w x y ≡ true))
      → default_step plan w ≡ Some x
  pub unwilling : (plan : Planned) (first : ℕ) (w : Progress) (x : Step) (give : Give) (t p k : ℕ) (cause : Cause)
      → IsPlan plan → RunReaches plan first w → enabled plan w x ≡ true
      → slice_get (progress_after plan w x give).now.log t ≡ Some (Unwilling p k cause) → length w.now.log ≤ t
      → IsUnwillingStep w x give t p k cause
  -- never_stuck
  pub at_rest : (plan : Planned) (first : ℕ) (w : Progress) → IsPlan plan → RunReaches plan first w
      → ((x : Step) → enabled plan w x ≡ false) → is_at_rest plan w ≡ true
  -- hindrances_of_steps
  pub nothing : (plan : Planned) (w : Progress) (x : Step) → (hindrance plan w x ≡ None) ↔ (enabled plan w x ≡ true)
  pub no_command : (plan : Planned) (first : ℕ) (w : Progress) (p : ℕ) → IsPlan plan → RunReaches plan first w
      → (hindrance plan w (Do p) ≡ Some NoCommand) ↔ (next_command plan w p ≡ None)
  -- tallies_of_runs
  pub puts : (plan : Planned) (first : ℕ) (w : Progress) (put : Tallies) (x : Step) (give : Give) → RunPuts plan first w put
      → enabled plan w x ≡ true → RunPuts plan first (progress_after plan w x give) (tallies_after plan w x give put)
  pub raised : (plan : Planned) (first : ℕ) (w : Progress) (put : Tallies) (x : Step) (give : Give) → IsPlan plan
      → RunPuts plan first w put → enabled plan w x ≡ true
      → IsRaised (length plan.names) w.now x (progress_after plan w x give).now put (tallies_after plan w x give put)
  pub instances : (plan : Planned) (first : ℕ) (w : Progress) → IsPlan plan → RunReaches plan first w
      → w.now.begun ≤ count_begins plan.commands
  pub fewer : (plan : Planned) (first : ℕ) (w : Progress) (p : ℕ) (c : Command) → IsPlan plan → RunReaches plan first w
      → next_command plan w p ≡ Some c → w.now.begun < length plan.commands
  pub unbegun : (plan : Planned) (first : ℕ) (w : Progress) (put : Tallies) (k : ℕ) → IsPlan plan → RunPuts plan first w put
      → w.now.begun < k → put.asks k ≡ 0
  pub asks : (plan : Planned) (first : ℕ) (w : Progress) (put : Tallies) (k : ℕ) → IsPlan plan → RunPuts plan first w put
      → put.asks k ≤ length plan.names * (length plan.names - 1)
  pub replies : (plan : Planned) (first : ℕ) (w : Progress) (put : Tallies) (k : ℕ) → IsPlan plan → RunPuts plan first w put
      → put.replies k ≤ put.asks k
  pub decisions : (plan : Planned) (first : ℕ) (w : Progress) (put : Tallies) (k : ℕ) → IsPlan plan → RunPuts plan first w put
      → put.decisions k ≤ put.asks k
  -- values_of_runs
  pub lead : (r : Rules (List ℤ)) (plan : Planned) (first : ℕ) (w : Progress) (x : Step) (give : Give) (p : ℕ) → IsPlan plan
      → RunReaches plan first w → enabled plan w x ≡ true
      → does_all r (due r (done w.now.log) p) (acts_of_step plan w x give p)
      ≡ due r (done (progress_after plan w x give).now.log) p
  pub can : (r : Rules (List ℤ)) (plan : Planned) (first : ℕ) (w : Progress) (x : Step) (give : Give) (p : ℕ) → IsPlan plan
      → RunReaches plan first w → enabled plan w x ≡ true
      → can_all r (due r (done w.now.log) p) (acts_of_step plan w x give p) ≡ true
