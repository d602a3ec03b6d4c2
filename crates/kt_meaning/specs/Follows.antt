-- A log that follows a plan, told by its rows alone: each process answers its commands in their order, and a phase begins
-- where nothing of the earlier ones is in transit.
use Rattle.std.specs.Prelude.{ℕ, List, [], ◌∷◌, if◌then◌else◌, ◌==◌, ◌≡◌, ◌≢◌, ◌<◌, ◌≤◌, ◌&&◌, Bool, true, false, Option, Some, None, is_some, option_map, option_and_then, length, filter, take, slice_get, unwrap_or}
use Rattle.kt_plan.specs.declared.commands.Command.{Command}
use Rattle.kt_base.specs.declared.words.Verb.{Verb}
use Rattle.kt_plan.specs.declared.commands.Job.{Job}
use Rattle.kt_plan.specs.declared.commands.Job.TheVariants as job
use Rattle.kt_base.specs.declared.words.Verb.TheVariants as verb
use Rattle.kt_base.specs.declared.words.Kind.TheVariants as kind
use Rattle.kt_spacetime.specs.declared.event.Event.{Event}
use Rattle.kt_spacetime.specs.declared.event.Event.TheVariants.{Sent, Began, Failed, Refused}
use Rattle.kt_spacetime.specs.Events.{process_of}
use Rattle.kt_meaning.specs.Past.{Past, past}
use Rattle.kt_meaning.specs.Legal.{has_deed}
use Rattle.kt_spacetime.specs.declared.deeds.Deed.TheVariants as deed
use Rattle.kt_plan.specs.Limits.{Planned}
use Rattle.std.specs.List.{AllZip}

-- p's commands, in order
abbrev pub commands_of : ℕ → List Command → List Command
commands_of p [] = []
commands_of p (c ∷ cs) = if c.by == p then c ∷ commands_of p cs else commands_of p cs

-- how a job is called in a row
abbrev pub verb_of : Job → Verb
verb_of (job.Send q body) = verb.Send
verb_of job.Checkpoint = verb.Checkpoint
verb_of job.Rollback = verb.Rollback
verb_of job.Fail = verb.Fail

-- a row that a process adds by a command of its own
abbrev pub is_command_row : Event → Bool
is_command_row (Sent p to body) = true
is_command_row (Began p k kind) = true
is_command_row (Failed p) = true
is_command_row (Refused p verb cause) = true
is_command_row _ = false

-- those of p, in log order
abbrev pub command_rows : ℕ → List Event → List Event
command_rows p log = filter (λ row. process_of row == p && is_command_row row) log

-- a row answers a job: it is done there, a send with the body of the command if it has one, or refused
abbrev pub AnswersJob : Job → Event → Type 0
AnswersJob j (Refused p verb cause) = verb ≡ verb_of j
AnswersJob (job.Send to body) (Sent p q sent) = (q ≡ to) × (sent ≡ unwrap_or body sent)
AnswersJob job.Checkpoint (Began p k kind.Checkpoint) = Unit {0}
AnswersJob job.Rollback (Began p k kind.Rollback) = Unit {0}
AnswersJob job.Fail (Failed p) = Unit {0}
AnswersJob _ _ = ⊥

-- rows answer all of some commands, one each, in order
abbrev pub AnswerAllCommands : List Command → List Event → Type 0
AnswerAllCommands = AllZip (λ c row. AnswersJob c.job row)

-- rows answer the first of some commands so
abbrev pub AnswerFirstCommands : List Command → List Event → Type 0
AnswerFirstCommands cs [] = Unit {0}
AnswerFirstCommands [] (row ∷ rows) = ⊥
AnswerFirstCommands (c ∷ cs) (row ∷ rows) = AnswersJob c.job row × AnswerFirstCommands cs rows

-- the command that a row answers, if it is a command row: its process's first one that no row before answers
abbrev pub command_answered : Planned → List Event → Event → Option Command
command_answered plan before row =
    if is_command_row row
    then slice_get (commands_of (process_of row) plan.commands) (length (command_rows (process_of row) before))
    else None

-- the phase of the command that row n answers, if it answers one; rows are counted from 0
abbrev pub phase_at : Planned → List Event → ℕ → Option ℕ
phase_at plan log n =
    option_map (λ (c : Command). c.phase) (option_and_then (command_answered plan (take n log)) (slice_get log n))

-- each instance that began is decided, nobody is in an open one, and each live message is dropped, or received in its
-- receiver's live history
pub record IsQuietPast (now : Past) : Type 0 where
  pub decided : (k : ℕ) → 0 < k → k ≤ length now.begun → is_some (now.decision k) ≡ true
  pub closed : (p : ℕ) → now.open_in p ≡ None
  pub arrived : (m p q : ℕ) → has_deed (deed.Sent m q) (now.live p) ≡ true → now.dropped m ≡ false →
      has_deed (deed.Received m p) (now.live q) ≡ true

-- one phase after another: just before a row of a phase each command of an earlier one has its row, and just before the
-- first row of a phase all is quiet
pub record KeepsPhases (plan : Planned) (log : List Event) : Type 0 where
  pub finished : (n k i p : ℕ) (c : Command) → phase_at plan log n ≡ Some k →
      slice_get (commands_of p plan.commands) i ≡ Some c → c.phase < k → i < length (command_rows p (take n log))
  pub quiet : (n k : ℕ) → phase_at plan log n ≡ Some k → ((m : ℕ) → m < n → phase_at plan log m ≢ Some k) →
      IsQuietPast (past (take n log))

-- a log of a whole run of the plan
pub record FollowsPlan (plan : Planned) (log : List Event) : Type 0 where
  pub commands : (p : ℕ) → AnswerAllCommands (commands_of p plan.commands) (command_rows p log)
  pub phases : KeepsPhases plan log
  pub quiet_end : IsQuietPast (past log)

-- a log of a run that has not ended
pub record BeginsPlan (plan : Planned) (log : List Event) : Type 0 where
  pub commands : (p : ℕ) → AnswerFirstCommands (commands_of p plan.commands) (command_rows p log)
  pub phases : KeepsPhases plan log
