-- Of the machine's state behind a run: how far a plan has come, and when its next phase opens.
use Rattle.std.specs.List.{list_any}
use Rattle.std.specs.Prelude.{length, ℕ, List, drop, Option, Bool, not, ◌==◌, ◌||◌, ◌&&◌, nat_lt, zero, suc, if◌then◌else◌, ◌+◌, ◌-◌, slice_get}
use Rattle.kt_protocol.specs.Deciding.{none_of}
use Rattle.kt_protocol.specs.Parcels.{has_parcel}
use Rattle.kt_protocol.specs.States.{State, opening}
use Rattle.kt_plan.specs.Limits.{Planned}
use Rattle.kt_plan.specs.declared.commands.Command.{Command}
use Rattle.kt_meaning.specs.Follows.{commands_of}
use Rattle.kt_promises.specs.Plans.{last_phase}
use Rattle.kt_promises.specs.Progress.{Progress}
use Rattle.kt_machine.specs.Seen.{seen}

-- the protocol's state; how many of its commands each process has done; the open phase
pub record MachineProgress : Type 0 where
  pub state : State
  pub done : ℕ → ℕ
  pub phase : ℕ

-- the commands that p has still to do
abbrev pub machine_commands_left : Planned → MachineProgress → ℕ → List Command
machine_commands_left plan now p = drop (now.done p) (commands_of p plan.commands)

-- the first of them
abbrev pub machine_next_command : Planned → MachineProgress → ℕ → Option Command
machine_next_command plan now p = slice_get (machine_commands_left plan now p) 0

-- nobody is in an instance, and no parcel is in a channel or held
abbrev pub machine_is_quiet : ℕ → State → Bool
machine_is_quiet n s = none_of n (λ p. not (s.so_far.open_in p == 0) || not (none_of n (λ q. has_parcel (s.channel q p) || has_parcel (s.held q p))))

-- no command of the open phase is left
abbrev pub machine_is_phase_done : Planned → MachineProgress → Bool
machine_is_phase_done plan now = none_of (length plan.names) (λ p. list_any (λ (x : Command). x.phase == now.phase) (machine_commands_left plan now p))

-- the next phase opens: the open one is done, all is quiet, and a later one is there
abbrev pub machine_opens_next : Planned → MachineProgress → Bool
machine_opens_next plan now = machine_is_phase_done plan now && (machine_is_quiet (length plan.names) now.state && nat_lt now.phase (last_phase plan.commands))

-- at most k phases open, one after another for as long as they may
abbrev pub machine_after_opening : ℕ → Planned → MachineProgress → MachineProgress
machine_after_opening zero plan now = now
machine_after_opening (suc k) plan now = if machine_opens_next plan now then machine_after_opening k plan (record now { phase = now.phase + 1 }) else now

-- as many phases have opened as may
abbrev pub machine_with_phases_open : Planned → MachineProgress → MachineProgress
machine_with_phases_open plan now = machine_after_opening (last_phase plan.commands - now.phase) plan now

-- nothing has been done, and phases without commands have opened
abbrev pub machine_start : Planned → MachineProgress
machine_start plan = machine_with_phases_open plan (record { state = opening (length plan.names); done = λ p. 0; phase = 0 })

-- what code has of this progress, where each process's counter of labels begins after the first
abbrev pub world_of : ℕ → MachineProgress → Progress
world_of first progress = record {
  now = seen first progress.state;
  done = progress.done;
  phase = progress.phase;
}
