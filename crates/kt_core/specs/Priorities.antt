-- Who steps first of those that can step.
use Rattle.std.specs.Prelude.{ℕ, Bool, ◌&&◌, not, if◌then◌else◌, is_none, nat_lt}
use Rattle.kt_base.specs.Sets.{count_of}
use Rattle.kt_process.specs.ProcessStates.{ProcessState, part_of_side, inst_of}
use Rattle.kt_system.specs.Reads.{awaited_of}
use Rattle.kt_core.specs.declared.priority.Priority.{Priority}
use Rattle.kt_core.specs.declared.priority.Priority.TheVariants.{Now, Down, Awaits}

-- whether a process's object is down, and the process in no instance
abbrev pub is_down_outside : ProcessState → Bool
is_down_outside x = not x.up && is_none (inst_of x.side)

-- how well a process steps now, for which these have a parcel: last, if it awaits more replies than that
abbrev pub priority_of : ProcessState → ℕ → Priority
priority_of x senders =
    if nat_lt (count_of senders) (awaited_of (part_of_side x.side)) then Awaits
    else if is_down_outside x then Down
    else Now
