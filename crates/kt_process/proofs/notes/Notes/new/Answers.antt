use Rattle.kt_process.proofs.NoteLists.{are_empty, empty_notes}
use Rattle.kt_process.proofs.notes.Notes.new.Goals as goal

pub invariant_of-result : goal.invariant_of-result
invariant_of-result c = (are_empty _ _ c.in_ok-with_capacity.ensures.items, c.in_ok-with_capacity.ensures.capacity)

pub returns-clause-empty : goal.returns-clause-empty
returns-clause-empty c = empty_notes _ c.in_ok-with_capacity.ensures.items
