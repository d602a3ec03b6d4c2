-- What there is to do, by what code has: commands, parcels to put, and parcels to take.
use Rattle.std.specs.Prelude.{ℕ, ◌+◌, ◌-◌, length, Bool, false, true, List, [], ◌∷◌, if◌then◌else◌, ◌*◌}
use Rattle.kt_machine.specs.Seen.{SeenLists}
use Rattle.kt_plan.specs.Limits.{Planned}
use Rattle.kt_promises.specs.Tallies.{Tallies, total_below}
use Rattle.kt_promises.specs.Progress.{Progress, commands_left}
use Rattle.kt_plan.specs.declared.commands.Job.{Job}
use Rattle.kt_plan.specs.declared.commands.Command.{Command}
use Rattle.kt_plan.specs.declared.commands.Job.TheVariants as job

-- a job that may begin an instance
abbrev pub begins_instance : Job → Bool
begins_instance job.Checkpoint = true
begins_instance job.Rollback = true
begins_instance _ = false

-- how many commands have such a job
abbrev pub count_begins : List Command → ℕ
count_begins [] = 0
count_begins (c ∷ cs) = (if begins_instance c.job then 1 else 0) + count_begins cs

-- how many asks, replies and decisions the instances of a plan put at most
abbrev pub most_put : Planned → ℕ
most_put plan = (length plan.commands + 1) * (3 * (length plan.names * (length plan.names - 1)))

-- how many steps a run with so many rows has at most
abbrev pub most_steps_of_run : Planned → ℕ → ℕ
most_steps_of_run plan rows = length plan.commands + rows + most_put plan

-- how many parcels are in the channels of n processes
abbrev pub parcels_in_transit : ℕ → SeenLists → ℕ
parcels_in_transit n channel = total_below n (λ p. total_below n (λ q. length (channel p q)))

-- how many rows there are, and asks, replies and decisions put of the instances below k
abbrev pub put_so_far : ℕ → Progress → Tallies → ℕ
put_so_far k w put =
    length w.now.log + (total_below k put.asks + (total_below k put.replies + total_below k put.decisions))

-- how many commands are left
abbrev pub count_left : Planned → Progress → ℕ
count_left plan w = total_below (length plan.names) (λ p. length (commands_left plan w p))

-- commands left, what may still be put within so many rows, and parcels to take
abbrev pub work_left : ℕ → Planned → Progress → Tallies → ℕ
work_left rows plan w put =
    count_left plan w + ((rows + most_put plan) - put_so_far (length plan.commands + 1) w put)
    + parcels_in_transit (length plan.names) w.now.channel
