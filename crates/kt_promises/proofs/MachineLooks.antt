-- Of the machine's state behind a run: what a step asks of the object of its process.
use Rattle.std.specs.Prelude.{None, if◌then◌else◌, Some, ◌&&◌, ℕ, Option, ◌==◌, List, ◌∷◌, not, []}
use Rattle.kt_protocol.specs.Joining.{must_take}
use Rattle.kt_protocol.specs.Parcels.{Parcel, Ask, App, Reply, Decide, has_parcel}
use Rattle.kt_protocol.specs.States.{State, is_ready}
use Rattle.kt_plan.specs.declared.commands.Command.{Command}
use Rattle.kt_plan.specs.declared.steps.Look.{Look}
use Rattle.kt_plan.specs.declared.steps.Look.TheVariants.{Idle, NeedsSave, Plain}
use Rattle.kt_plan.specs.Limits.{Planned}
use Rattle.kt_promises.proofs.MachineProgress.{MachineProgress, machine_next_command}
use Rattle.kt_plan.specs.declared.steps.Step.{Step}
use Rattle.kt_plan.specs.declared.steps.Step.TheVariants.{Do, Take}
use Rattle.kt_promises.proofs.MachineSteps.{machine_enabled}
use Rattle.kt_promises.specs.Looks.{look_of_job}

-- of p's command, if it has one
abbrev pub machine_look_of_command : MachineProgress → ℕ → Option Command → Look
machine_look_of_command now p None = Plain
machine_look_of_command now p (Some c) = look_of_job (now.state.so_far.open_in p == 0) (now.state.up p) c.job

-- of what is in front in the channel from q: an ask that makes p take a checkpoint needs to know whether its object can be
-- saved
abbrev pub machine_look_of_front : State → ℕ → ℕ → List Parcel → Look
machine_look_of_front s p q (Ask k l ∷ rest) = if (s.so_far.open_in p == 0 && not (s.so_far.is_rollback k)) && (must_take s p q l && s.up p) then NeedsSave else Plain
machine_look_of_front s p q (App m ∷ rest) = Plain
machine_look_of_front s p q (Reply k w ∷ rest) = Plain
machine_look_of_front s p q (Decide k c ∷ rest) = Plain
machine_look_of_front s p q [] = Plain

-- of an enabled step: a message that is held asks for nothing
abbrev pub machine_look_of_step : Planned → MachineProgress → Step → Look
machine_look_of_step plan now (Do p) = machine_look_of_command now p (machine_next_command plan now p)
machine_look_of_step plan now (Take p q) = if not (is_ready now.state p) && has_parcel (now.state.held q p) then Plain else machine_look_of_front now.state p q (now.state.channel q p)

-- what a step asks of the object
abbrev pub machine_look : Planned → MachineProgress → Step → Look
machine_look plan now x = if machine_enabled plan now x then machine_look_of_step plan now x else Idle
