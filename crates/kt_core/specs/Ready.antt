-- What is handed on of a step that was looked at.
use Rattle.std.specs.Prelude.{◌≡◌, None}
use Rattle.kt_promises.specs.Steps.{process_of_step}
use Rattle.kt_core.specs.declared.ready.Ready.{Ready}
use Rattle.kt_core.specs.Agendas.{agenda_place}
use Rattle.kt_core.specs.Worlds.{World, step_refusal, needs}

-- a step is not refused, needs this of its process's object, and the next command of the process stands at this place
pub record IsReady (w : World) (ready : Ready) : Type 0 where
  pub allowed : step_refusal w ready.step ≡ None
  pub look : ready.look ≡ needs w ready.step
  pub place : ready.place ≡ agenda_place w.agenda (process_of_step ready.step)
