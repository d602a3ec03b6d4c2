-- A plan, its steps and its worlds as the laws of plans have them.
use Rattle.std.specs.Prelude.{◌≡◌, ◌<◌, ◌≤◌, ℕ, Some, length}
use Rattle.kt_plan.specs.Limits.{IsPlan}
use Rattle.kt_plan.specs.declared.commands.Command.{Command}
use Rattle.kt_process.specs.ProcessStates.{part_of_side, IsNumbered}
use Rattle.kt_system.specs.Systems.{Whole, state_of}
use Rattle.kt_system.specs.declared.system.Tally.{Tally}
use Rattle.kt_system.specs.Reads.{tally_of}
use Rattle.kt_system.specs.Shown.{ShowsState}
use Rattle.kt_promises.specs.Progress.{Progress}
use Rattle.kt_promises.specs.Tallies.{Tallies, RunPuts}
use Rattle.kt_promises.specs.Order.{next_place}
use Rattle.kt_promises.specs.Runs.{RunReaches}
use Rattle.kt_core.specs.Agendas.{Agenda, agenda_place, agenda_command}

-- what an instance has put into channels, by what its run has
abbrev pub tally_shown : Tallies → ℕ → Tally
tally_shown put k = record { asks = put.asks k; replies = put.replies k; decisions = put.decisions k }

-- a run of the plan, where counters of labels begin after this one, leads to v; and that is what the processes keep, which
-- commands are done, and as long as one is left which phase is open; there is a tally for each instance that may begin
pub record Mirrors (a : Agenda) (s : Whole) (first : ℕ) (v : Progress) : Type 0 where
  pub limits : IsPlan a.plan
  pub size : s.size ≡ length a.plan.names
  pub numbered : (p : ℕ) → p < s.size → IsNumbered (part_of_side (state_of s p).side)
  pub reached : RunReaches a.plan first v
  pub now : ShowsState s v.now
  pub places : (p : ℕ) → p < 64 → agenda_place a p ≡ next_place a.plan v p
  pub phase : (p : ℕ) (c : Command) → p < 64 → agenda_command a p ≡ Some c → a.phase ≡ v.phase
  pub instances : length a.plan.commands ≤ length s.put

-- a run of the plan leads to v, and what its instances have put into channels is what is counted
pub record MirrorsPut (a : Agenda) (s : Whole) (first : ℕ) (v : Progress) (put : Tallies) : Type 0 where
  pub run : RunPuts a.plan first v put
  pub counted : (k : ℕ) → 0 < k → tally_of s k ≡ tally_shown put k

-- some run does, with what its instances have put
abbrev pub IsReached : Agenda → Whole → Type 0
IsReached a s = (first : ℕ) × (v : Progress) × Mirrors a s first v × (put : Tallies) × MirrorsPut a s first v put
