use Rattle.kt_promises.proofs.CommandPlaces.{place_get}
use Rattle.kt_promises.proofs.OpenPhase.{next_there_seen}
use Rattle.kt_promises.proofs.laws.places_of_commands.Goals as goal

pub returns-clause-next : goal.returns-clause-next
returns-clause-next c = λ plan w p. place_get (w.done p) p plan.commands

pub returns-clause-there : goal.returns-clause-there
returns-clause-there c = next_there_seen
