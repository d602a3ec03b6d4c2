-- Of the machine's state behind a run: what there is to do: commands, parcels to put, and parcels to take.
use Rattle.std.specs.Prelude.{ℕ, ◌+◌, length, ◌-◌}
use Rattle.kt_protocol.specs.Parcels.{Lists}
use Rattle.kt_protocol.specs.States.{State}
use Rattle.kt_plan.specs.Limits.{Planned}
use Rattle.kt_promises.proofs.MachineProgress.{MachineProgress, machine_commands_left}
use Rattle.kt_promises.specs.Tallies.{total_below}
use Rattle.kt_promises.specs.Work.{most_put}

-- how many commands are left
abbrev pub machine_count_left : Planned → MachineProgress → ℕ
machine_count_left plan now = total_below (length plan.names) (λ p. length (machine_commands_left plan now p))

-- how many parcels are in the channels of n processes
abbrev pub machine_parcels_in_transit : ℕ → Lists → ℕ
machine_parcels_in_transit n channel = total_below n (λ p. total_below n (λ q. length (channel p q)))

-- how many rows there are, and asks, replies and decisions put of the instances below k
abbrev pub machine_put_so_far : ℕ → State → ℕ
machine_put_so_far k s = length s.log + (total_below k s.asks + (total_below k s.replies + total_below k s.decisions))

-- commands left, what may still be put within so many rows, and parcels to take
abbrev pub machine_work_left : ℕ → Planned → MachineProgress → ℕ
machine_work_left rows plan now = machine_count_left plan now + ((rows + most_put plan) - machine_put_so_far (length plan.commands + 1) now.state) + machine_parcels_in_transit (length plan.names) now.state.channel
