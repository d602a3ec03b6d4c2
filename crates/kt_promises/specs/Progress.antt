-- What code has of a run of a plan: what is seen of the protocol's state, and how far the commands have come.
use Rattle.std.specs.List.{list_any, range_with_len}
use Rattle.std.specs.Prelude.{length, max, ℕ, ◌-◌, ◌==◌, ◌&&◌, ◌||◌, not, nat_lt, if◌then◌else◌, Bool, Option, unwrap_or, List, drop, find, slice_get}
use Rattle.kt_protocol.specs.Deciding.{none_of}
use Rattle.kt_machine.specs.Seen.{Seen}
use Rattle.kt_machine.specs.Transition.{opening_seen}
use Rattle.kt_plan.specs.declared.commands.Command.{Command}
use Rattle.kt_plan.specs.Limits.{Planned}
use Rattle.kt_meaning.specs.Follows.{commands_of}
use Rattle.kt_promises.specs.Plans.{last_phase}
use Rattle.kt_fifo.specs.Queues.{has_parcel}

-- a plan's run as code has it
pub record Progress : Type 0 where
  pub now : Seen
  -- how many of its commands a process has done
  pub done : ℕ → ℕ
  pub phase : ℕ

-- the commands that p has still to do
abbrev pub commands_left : Planned → Progress → ℕ → List Command
commands_left plan w p = drop (w.done p) (commands_of p plan.commands)

-- the first of them
abbrev pub next_command : Planned → Progress → ℕ → Option Command
next_command plan w p = slice_get (commands_left plan w p) 0

-- nobody is in an instance, and no parcel is in a channel or held
abbrev pub is_quiet : ℕ → Seen → Bool
is_quiet n v =
    none_of n (λ p. not ((v.states p).inst == 0)
    || not (none_of n (λ q. has_parcel (v.channel q p) || has_parcel (v.held q p))))

-- no command of this phase is left
abbrev pub is_phase_done : Planned → Progress → ℕ → Bool
is_phase_done plan w k = none_of (length plan.names) (λ p. list_any (λ (c : Command). c.phase == k) (commands_left plan w p))

-- the next phase opens: the open one is done, all is quiet, and a later one is there
abbrev pub opens_next : Planned → Progress → Bool
opens_next plan w =
    is_phase_done plan w w.phase && (is_quiet (length plan.names) w.now && nat_lt w.phase (last_phase plan.commands))

-- the first phase, from the open one on, of which a command is left; the last one, where none is
abbrev pub phase_to_open : Planned → Progress → ℕ
phase_to_open plan w =
    unwrap_or (find (λ k. not (is_phase_done plan w k)) (range_with_len w.phase (last_phase plan.commands - w.phase)))
    (max w.phase (last_phase plan.commands))

-- once all is quiet, it is open
abbrev pub with_phases_open : Planned → Progress → Progress
with_phases_open plan w = if is_quiet (length plan.names) w.now then record w { phase = phase_to_open plan w } else w

-- nothing has been done, and phases without commands have opened
abbrev pub progress_at_start : Planned → ℕ → Progress
progress_at_start plan first =
    with_phases_open plan (record { now = opening_seen (length plan.names) first; done = λ p. 0; phase = 0 })
