use Rattle.kt_process.proofs.NoteTests.{IsAsRest}
use Rattle.kt_process.proofs.notes.are_notes.Given as goal

abbrev pub invariant-loop-pair : goal.invariant-loop-pair
invariant-loop-pair l = IsAsRest l.low l.processes l.pair-index l.pairs
