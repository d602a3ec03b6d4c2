-- Which commands of a plan are done.
use Rattle.std.specs.Prelude.{◌≡◌, ◌≢◌, ◌≤◌, ◌<◌, ◌+◌, ℕ, List, Option, Some, None, length, is_some, slice_get, slice_index_or, nat_le, if◌then◌else◌}
use Rattle.kt_base.specs.Sets.{has}
use Rattle.kt_plan.specs.Limits.{Planned, IsPlan}
use Rattle.kt_plan.specs.declared.commands.Command.{Command}
use Rattle.kt_plan.specs.declared.commands.Job.TheVariants.{Fail}

-- a plan, the place of each process's next command (the number of all where it has none), and the phase that is open
pub record Agenda : Type 0 where
  pub plan : Planned
  pub next : List ℕ
  pub phase : ℕ

-- the place of a process's next command
abbrev pub agenda_place : Agenda → ℕ → ℕ
agenda_place a p = slice_index_or a.next p 0

-- the next command of a process
abbrev pub agenda_command : Agenda → ℕ → Option Command
agenda_command a p = slice_get a.plan.commands (agenda_place a p)

-- a command, if its phase is open
abbrev pub if_open : ℕ → Option Command → Option Command
if_open phase None = None
if_open phase (Some command) = if nat_le command.phase phase then Some command else None

-- the next command of a process, if its phase is open
abbrev pub open_command : Agenda → ℕ → Option Command
open_command a p = if_open a.phase (agenda_command a p)

abbrev pub no_command : Command
no_command = record { by = 0; phase = 0; job = Fail }

-- whose command stands at a place
abbrev pub by_at : List Command → ℕ → ℕ
by_at commands i = (slice_index_or commands i no_command).by

-- the first command of p from place i on is at place j; it has none where that is the number of all
pub record IsNextOf (commands : List Command) (p i j : ℕ) : Type 0 where
  pub from : i ≤ j
  pub within : j ≤ length commands
  pub none_before : (m : ℕ) → i ≤ m → m < j → by_at commands m ≢ p
  pub own : j < length commands → by_at commands j ≡ p

-- from place i on: each process's first command; and by command, the following one of the same process
pub record ArePlaces (commands : List Command) (next following : List ℕ) (i : ℕ) : Type 0 where
  pub processes : length next ≡ 64
  pub commands_each : length following ≡ length commands
  pub nexts : (p : ℕ) → p < 64 → IsNextOf commands p i (slice_index_or next p 0)
  pub follows : (m : ℕ) → i ≤ m → m < length commands → IsNextOf commands (by_at commands m) (m + 1) (slice_index_or following m 0)

-- all commands are done
pub record IsDone (a : Agenda) : Type 0 where
  pub none : (p : ℕ) → p < 64 → agenda_command a p ≡ None

-- the least phase of the commands that are not done
pub record IsLeastPhase (a : Agenda) (phase : ℕ) : Type 0 where
  pub least : (p : ℕ) (command : Command) → p < 64 → agenda_command a p ≡ Some command → phase ≤ command.phase
  pub process : ℕ
  pub command : Command
  pub there : process < 64
  pub is : agenda_command a process ≡ Some command
  pub attained : command.phase ≡ phase

-- the place of each process's next command is that of one of its own, or the number of all
abbrev pub AreOwn : List Command → List ℕ → Type 0
AreOwn commands next = (p : ℕ) → p < 64 → slice_index_or next p 0 < length commands → by_at commands (slice_index_or next p 0) ≡ p

-- the commands before a place are done: each one's process goes on with a later one
abbrev pub AreDoneBefore : List Command → List ℕ → ℕ → Type 0
AreDoneBefore commands next place = (i : ℕ) → i < place → i < slice_index_or next (by_at commands i) 0

-- the first command that is not done is at this place; all are where that is their number
pub record IsFirstLeft (commands : List Command) (next : List ℕ) (place : ℕ) : Type 0 where
  pub done : AreDoneBefore commands next place
  pub within : place ≤ length commands
  pub left : place < length commands → slice_index_or next (by_at commands place) 0 ≡ place

-- a set has the processes whose next commands are of a phase that is open
abbrev pub AreInPhase : List Command → List ℕ → ℕ → ℕ → Type 0
AreInPhase commands next phase set = (p : ℕ) → p < 64
    → has set p ≡ is_some (if_open phase (slice_get commands (slice_index_or next p 0)))

-- each place is one of the process's own; by command, there is the place of the following one of the same process; there
-- is that of the first one that is not done; and there are the processes whose next commands are of the open phase
pub record IsAgenda (plan : Planned) (next following : List ℕ) (first phase set : ℕ) : Type 0 where
  pub limits : IsPlan plan
  pub processes : length next ≡ 64
  pub commands : length following ≡ length plan.commands
  pub own : AreOwn plan.commands next
  pub follows : (i : ℕ) → i < length plan.commands
      → IsNextOf plan.commands (by_at plan.commands i) (i + 1) (slice_index_or following i 0)
  pub left : IsFirstLeft plan.commands next first
  pub in_phase : AreInPhase plan.commands next phase set
