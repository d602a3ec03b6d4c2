-- What every plan keeps to.
use Rattle.std.specs.Prelude.{◌≡◌, ◌≢◌, ◌≤◌, ◌<◌, ℕ, List, length, All}
use Rattle.std.specs.List.Sorted.{IsNonDecreasingBy}
use Rattle.kt_plan.specs.declared.commands.Command.{Command}
use Rattle.kt_plan.specs.declared.commands.Job.{Job}
use Rattle.kt_plan.specs.declared.commands.Job.TheVariants.{Send, Checkpoint, Rollback, Fail}
use Rattle.kt_plan.specs.Names.{AreNames}

-- what contracts see of a plan: its names, kinds and commands, in order
pub record Planned : Type 0 where
  pub names : List (List ℕ)
  pub kinds : List ℕ
  pub commands : List Command

-- how many commands a plan has at most
abbrev pub most_commands : ℕ
most_commands = 4096

-- there is such a kind of object
abbrev pub IsKindOfObject : ℕ → Type 0
IsKindOfObject kind = kind < 3

-- a job of a process where there are so many processes: a send goes to another process that is there
abbrev pub IsJobOf : ℕ → ℕ → Job → Type 0
IsJobOf count by (Send to body) = (to < count) × (to ≢ by)
IsJobOf count by Checkpoint = Unit {0}
IsJobOf count by Rollback = Unit {0}
IsJobOf count by Fail = Unit {0}

-- a command where there are so many processes: its process is there, and so is whom it sends to
abbrev pub IsCommandOf : ℕ → Command → Type 0
IsCommandOf count command = (command.by < count) × IsJobOf count command.by command.job

-- the phases of commands never fall
abbrev pub IsInPhases : List Command → Type 0
IsInPhases commands = IsNonDecreasingBy (λ (command : Command). command.phase) commands

-- the limits of a plan
pub record IsPlan (plan : Planned) : Type 0 where
  pub names : AreNames plan.names
  pub one_kind_each : length plan.kinds ≡ length plan.names
  pub kinds : All IsKindOfObject plan.kinds
  pub few : length plan.commands ≤ most_commands
  pub commands : All (IsCommandOf (length plan.names)) plan.commands
  pub phases : IsInPhases plan.commands
