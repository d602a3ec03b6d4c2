-- Which rows one step adds to the log, by what code has.
use Rattle.std.specs.Prelude.{◌≡◌, ℕ, ◌+◌, ◌==◌, ◌&&◌, not, if◌then◌else◌, Bool, true, false, Option, Some, None, List, [], ◌∷◌, ◌++◌, length, ◌⊎◌, ℤ, ◌≤◌, ◌||◌, unwrap_or}
use Rattle.kt_base.specs.declared.words.Cause.{Cause}
use Rattle.kt_base.specs.declared.words.Cause.TheVariants.{Busy, Down, NoSave}
use Rattle.kt_base.specs.declared.words.Verb.{Verb}
use Rattle.kt_fifo.specs.declared.parcels.Parcel.{Parcel}
use Rattle.kt_fifo.specs.declared.parcels.Parcel.TheVariants.{App, Ask, Reply, Decide}
use Rattle.kt_spacetime.specs.declared.event.Event.{Event}
use Rattle.kt_spacetime.specs.declared.event.Event.TheVariants.{Received, Dropped, Decided, Closed, Refused, Sent, Began, Took, Ready, Failed, Unwilling}
use Rattle.kt_machine.specs.Seen.{SeenProcess, Seen}
use Rattle.kt_machine.specs.Transition.{is_seen_ready}
use Rattle.kt_plan.specs.declared.commands.Job.{Job}
use Rattle.kt_plan.specs.declared.commands.Command.{Command}
use Rattle.kt_plan.specs.Limits.{Planned}
use Rattle.kt_plan.specs.declared.steps.Step.{Step}
use Rattle.kt_plan.specs.declared.steps.Step.TheVariants.{Do, Take}
use Rattle.kt_plan.specs.declared.steps.Give.{Give}
use Rattle.kt_plan.specs.declared.commands.Job.TheVariants as job
use Rattle.kt_fifo.specs.Queues.{has_parcel}
use Rattle.kt_promises.specs.Progress.{Progress, next_command}
use Rattle.kt_promises.specs.Steps.{progress_after}
use Rattle.kt_base.specs.declared.words.Kind.TheVariants as kind
use Rattle.kt_base.specs.declared.words.Verb.TheVariants as verb
use Rattle.kt_meaning.specs.Follows.{verb_of}

-- nothing, or the decision of an initiator that asked nobody
abbrev pub AreDecidingRows : ℕ → ℕ → List Event → Type 0
AreDecidingRows p k rows = (rows ≡ []) ⊎ ((commit : Bool) × (rows ≡ Decided p k commit ∷ Closed p k ∷ []))

-- the rows of p's job: that it is refused, or that it is done; k is the next instance
abbrev pub AreRowsOfCommand : ℕ → ℕ → Job → ℤ → Option Cause → List Event → Type 0
AreRowsOfCommand k p j body (Some cause) rows = rows ≡ Refused p (verb_of j) cause ∷ []
AreRowsOfCommand k p (job.Send q b) body None rows = rows ≡ Sent p q (unwrap_or b body) ∷ []
AreRowsOfCommand k p job.Checkpoint body None rows = (more : List Event) × AreDecidingRows p k more × (rows ≡ Began p k kind.Checkpoint ∷ Took p k ∷ more)
AreRowsOfCommand k p job.Rollback body None rows = (more : List Event) × AreDecidingRows p k more × (rows ≡ Began p k kind.Rollback ∷ Ready p k ∷ more)
AreRowsOfCommand k p job.Fail body None rows = rows ≡ Failed p ∷ []

-- a row of p's part in an instance
abbrev pub is_instance_row : ℕ → Event → Bool
is_instance_row p (Took u k) = u == p
is_instance_row p (Ready u k) = u == p
is_instance_row p (Unwilling u k c) = u == p
is_instance_row p (Decided u k c) = u == p
is_instance_row p (Closed u k) = u == p
is_instance_row p _ = false

-- all rows are such
abbrev pub are_instance_rows : ℕ → List Event → Bool
are_instance_rows p [] = true
are_instance_rows p (x ∷ xs) = is_instance_row p x && are_instance_rows p xs

-- at most three rows: p joins, decides and closes
abbrev pub AreInstanceRows : ℕ → List Event → Type 0
AreInstanceRows p rows = (are_instance_rows p rows ≡ true) × (length rows ≤ 3)

-- a row is a tentative checkpoint
abbrev pub is_took_row : Event → Bool
is_took_row (Took u k) = true
is_took_row _ = false

-- some row is one
abbrev pub has_took_row : List Event → Bool
has_took_row [] = false
has_took_row (x ∷ xs) = is_took_row x || has_took_row xs

-- a row is a message sent
abbrev pub is_sent_row : Event → Bool
is_sent_row (Sent u v b) = true
is_sent_row _ = false

-- some row is one
abbrev pub has_sent_row : List Event → Bool
has_sent_row [] = false
has_sent_row (x ∷ xs) = is_sent_row x || has_sent_row xs

-- a job to send what the object offers
abbrev pub is_offer_job : Job → Bool
is_offer_job (job.Send q None) = true
is_offer_job _ = false

-- so is a command
abbrev pub is_offer_command : Option Command → Bool
is_offer_command None = false
is_offer_command (Some c) = is_offer_job c.job

-- why a process refuses a job, if it does
abbrev pub refusal_cause : SeenProcess → Bool → Job → Option Cause
refusal_cause y able (job.Send q body) = if y.up then None else Some Down
refusal_cause y able job.Checkpoint =
    if y.inst == 0 then (if able && y.up then None else Some (if y.up then NoSave else Down)) else Some (Busy y.inst)
refusal_cause y able job.Rollback = if y.inst == 0 then None else Some (Busy y.inst)
refusal_cause y able job.Fail = if y.up then None else Some Down

-- the list of which p takes the first: what it holds of q, unless it is in a rollback or holds nothing; then the
-- channel
abbrev pub list_taken : Seen → ℕ → ℕ → List Parcel
list_taken v p q = if not (is_seen_ready v p) && has_parcel (v.held q p) then v.held q p else v.channel q p

-- who is in a rollback holds a message; else who is up receives it, and who is down drops it
abbrev pub AreRowsOfMessage : Seen → Seen → ℕ → ℕ → Parcel → ℕ → Bool → Bool → List Event → Type 0
AreRowsOfMessage v v' p q x m true up rows = (rows ≡ []) × (v'.held q p ≡ v.held q p ++ x ∷ [])
AreRowsOfMessage v v' p q x m false true rows = rows ≡ Received p q m ∷ []
AreRowsOfMessage v v' p q x m false false rows = rows ≡ Dropped p q m ∷ []

-- the rows of taking what is in front of a list
abbrev pub AreRowsOfTake : Seen → Seen → ℕ → ℕ → List Parcel → List Event → Type 0
AreRowsOfTake v v' p q [] rows = rows ≡ []
AreRowsOfTake v v' p q (App l m body ∷ rest) rows =
    AreRowsOfMessage v v' p q (App l m body) m (is_seen_ready v p) (v.states p).up rows
AreRowsOfTake v v' p q (Ask k kind l ∷ rest) rows = AreInstanceRows p rows
AreRowsOfTake v v' p q (Reply k w ∷ rest) rows = AreInstanceRows p rows
AreRowsOfTake v v' p q (Decide k c ∷ rest) rows = AreInstanceRows p rows

-- the rows of p's next command
abbrev pub AreRowsOfDo : Seen → ℕ → Give → Option Command → List Event → Type 0
AreRowsOfDo v p give None rows = rows ≡ []
AreRowsOfDo v p give (Some c) rows =
    AreRowsOfCommand (v.begun + 1) p c.job give.body (refusal_cause (v.states p) give.able c.job) rows

-- the rows of a step
abbrev pub AreRowsOfStep : Planned → Progress → Step → Give → List Event → Type 0
AreRowsOfStep plan w (Do p) give rows = AreRowsOfDo w.now p give (next_command plan w p) rows
AreRowsOfStep plan w (Take p q) give rows =
    AreRowsOfTake w.now (progress_after plan w (Take p q) give).now p q (list_taken w.now p q) rows

-- p refuses its next command for a cause that holds; the row is the next one
pub record IsRefusedStep (plan : Planned) (w : Progress) (x : Step) (give : Give) (t p : ℕ) (verb : Verb) (cause : Cause) : Type 0 where
  pub command : Command
  pub step : x ≡ Do p
  pub next : next_command plan w p ≡ Some command
  pub word : verb ≡ verb_of command.job
  pub row : t ≡ length w.now.log
  pub justified : refusal_cause (w.now.states p) give.able command.job ≡ Some cause

-- a step that sends what the object offers
abbrev pub is_offer_step : Planned → Progress → Step → Bool
is_offer_step plan w (Do p) = is_offer_command (next_command plan w p)
is_offer_step plan w (Take p q) = false
