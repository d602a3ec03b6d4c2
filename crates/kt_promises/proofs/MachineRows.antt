-- Of the machine's state behind a run: the rows that one step adds to the log.
use Rattle.std.specs.Prelude.{ℕ, Bool, Option, if◌then◌else◌, None, Some, ◌==◌, ◌&&◌, List, ◌≡◌, [], ◌∷◌, ◌+◌, false, true, length, ◌≤◌, not, ◌++◌}
use Rattle.kt_base.specs.declared.words.Cause.{Cause}
use Rattle.kt_base.specs.declared.words.Cause.TheVariants.{Down, NoSave, Busy}
use Rattle.kt_protocol.specs.Parcels.{Parcel, has_parcel, App, Ask, Reply, Decide}
use Rattle.kt_protocol.specs.Refusals.{MayBeUnwilling}
use Rattle.kt_protocol.specs.States.{State, is_ready}
use Rattle.kt_spacetime.specs.declared.event.Event.{Event}
use Rattle.kt_spacetime.specs.declared.event.Event.TheVariants.{Received, Dropped}
use Rattle.kt_promises.specs.Looks.{uses_able}
use Rattle.kt_promises.proofs.MachineLooks.{machine_look}
use Rattle.kt_plan.specs.declared.commands.Job.{Job}
use Rattle.kt_plan.specs.declared.commands.Command.{Command}
use Rattle.kt_plan.specs.Limits.{Planned}
use Rattle.kt_promises.proofs.MachineProgress.{MachineProgress, machine_next_command}
use Rattle.kt_plan.specs.declared.steps.Give.{Give}
use Rattle.kt_plan.specs.declared.steps.Step.{Step}
use Rattle.kt_plan.specs.declared.steps.Step.TheVariants.{Do, Take}
use Rattle.kt_promises.proofs.MachineSteps.{after_machine_step}
use Rattle.kt_plan.specs.declared.commands.Job.TheVariants as job
use Rattle.kt_promises.specs.Rows.{AreRowsOfCommand, AreInstanceRows, has_took_row}

-- why p refuses a job, if it does
abbrev pub machine_refusal_cause : State → ℕ → Bool → Job → Option Cause
machine_refusal_cause s p able (job.Send q body) = if s.up p then None else Some Down
machine_refusal_cause s p able job.Checkpoint = if s.so_far.open_in p == 0 then (if able && s.up p then None else Some (if s.up p then NoSave else Down)) else Some (Busy (s.so_far.open_in p))
machine_refusal_cause s p able job.Rollback = if s.so_far.open_in p == 0 then None else Some (Busy (s.so_far.open_in p))
machine_refusal_cause s p able job.Fail = if s.up p then None else Some Down

-- the rows of p's next command
abbrev pub AreMachineRowsOfDo : State → ℕ → Give → Option Command → List Event → Type 0
AreMachineRowsOfDo s p give None rows = rows ≡ []
AreMachineRowsOfDo s p give (Some c) rows = AreRowsOfCommand (s.instances + 1) p c.job give.body (machine_refusal_cause s p give.able c.job) rows

-- the list of which p takes the first: what it holds of q, unless it is in a rollback or holds nothing; then the channel
abbrev pub machine_list_taken : State → ℕ → ℕ → List Parcel
machine_list_taken s p q = if not (is_ready s p) && has_parcel (s.held q p) then s.held q p else s.channel q p

-- who is in a rollback holds a message; else who is up receives it, and who is down drops it
abbrev pub AreMachineRowsOfMessage : State → State → ℕ → ℕ → ℕ → Bool → Bool → List Event → Type 0
AreMachineRowsOfMessage s s' p q m true up rows = (rows ≡ []) × (s'.held q p ≡ s.held q p ++ App m ∷ [])
AreMachineRowsOfMessage s s' p q m false true rows = rows ≡ Received p q m ∷ []
AreMachineRowsOfMessage s s' p q m false false rows = rows ≡ Dropped p q m ∷ []

-- the rows of taking what is in front of a list
abbrev pub AreMachineRowsOfTake : State → State → ℕ → ℕ → List Parcel → List Event → Type 0
AreMachineRowsOfTake s s' p q [] rows = rows ≡ []
AreMachineRowsOfTake s s' p q (App m ∷ rest) rows = AreMachineRowsOfMessage s s' p q m (is_ready s p) (s.up p) rows
AreMachineRowsOfTake s s' p q (Ask k l ∷ rest) rows = AreInstanceRows p rows
AreMachineRowsOfTake s s' p q (Reply k w ∷ rest) rows = AreInstanceRows p rows
AreMachineRowsOfTake s s' p q (Decide k c ∷ rest) rows = AreInstanceRows p rows

-- the rows of a step
abbrev pub AreMachineRowsOfStep : Planned → MachineProgress → Step → Give → List Event → Type 0
AreMachineRowsOfStep plan now (Do p) give rows = AreMachineRowsOfDo now.state p give (machine_next_command plan now p) rows
AreMachineRowsOfStep plan now (Take p q) give rows = AreMachineRowsOfTake now.state (after_machine_step plan now (Take p q) give).state p q (machine_list_taken now.state p q) rows

-- a step adds rows to the log, and they are these
pub record AddsMachineRows (plan : Planned) (now : MachineProgress) (x : Step) (give : Give) : Type 0 where
  pub rows : List Event
  pub log : (after_machine_step plan now x give).state.log ≡ now.state.log ++ rows
  pub fit : AreMachineRowsOfStep plan now x give rows
  pub few : length rows ≤ 4

-- p takes an ask to join k and may be unwilling; its row is the next one
pub record IsUnwillingMachineStep (now : MachineProgress) (x : Step) (give : Give) (t p k : ℕ) (cause : Cause) : Type 0 where
  pub from : ℕ
  pub step : x ≡ Take p from
  pub row : t ≡ length now.state.log
  pub justified : MayBeUnwilling now.state p from k give.able cause

-- a step takes a tentative checkpoint exactly where it asks whether the object can be saved
abbrev pub TakesCheckpointWhereAsked : Planned → MachineProgress → Step → Give → Type 0
TakesCheckpointWhereAsked plan now x give = (rows : List Event) × ((after_machine_step plan now x give).state.log ≡ now.state.log ++ rows) × (has_took_row rows ≡ uses_able (machine_look plan now x))
