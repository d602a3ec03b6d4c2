use Rattle.std.proofs.Common.{refl}
use Rattle.kt_process.proofs.rollback.on_ask.Goals as goal

pub returns-in-Some-clause-side : goal.returns-in-Some-clause-side
returns-in-Some-clause-side c = rw c.in-Some.is (refl, rw (← c.is_in.ensures) c.note_if.ensures)
