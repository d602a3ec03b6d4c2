-- How often processes are to fail.
use Rattle.std.specs.Prelude.{◌==◌, ◌&&◌, ℕ, Bool, true, false, List, count_by}
use Rattle.kt_plan.specs.declared.commands.Command.{Command}
use Rattle.kt_plan.specs.declared.commands.Job.{Job}
use Rattle.kt_plan.specs.declared.commands.Job.TheVariants.{Send, Checkpoint, Rollback, Fail}

-- a job to fail
abbrev pub is_failure : Job → Bool
is_failure (Send to body) = false
is_failure Checkpoint = false
is_failure Rollback = false
is_failure Fail = true

-- how many failures of a process there are among some commands
abbrev pub failures_of : List Command → ℕ → ℕ
failures_of commands p = count_by (λ (command : Command). command.by == p && is_failure command.job) commands
