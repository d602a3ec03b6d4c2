use Rattle.kt_machine.proofs.ThingsAlong.{things_of_run}
use Rattle.kt_machine.proofs.due.things_of_runs.Goals as goal

pub returns : goal.returns
returns g c = record { things = λ r s n steps p y i l. things_of_run r s i n steps p y l }
