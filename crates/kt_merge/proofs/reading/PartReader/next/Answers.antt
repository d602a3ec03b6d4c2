use Rattle.std.proofs.Common.{refl}
use Rattle.kt_merge.proofs.reading.PartReader.next.Goals as goal

pub returns-in-Err-clause-steps : goal.returns-in-Err-clause-steps
returns-in-Err-clause-steps g c =
    rw (← c.self.view_is, c.in-Reading.is) (record { kept = refl; still = (refl, refl, refl); first = λ _. rw c.deref_mut.ensures.value at c.in-Err.ensures.fault })
