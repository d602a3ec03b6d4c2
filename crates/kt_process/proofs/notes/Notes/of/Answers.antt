use Rattle.std.proofs.Common.{arith, rules}
use Rattle.kt_process.specs.Notes.{AreNotes}
use Rattle.kt_process.proofs.NoteLists.{notes_length}
use Rattle.kt_process.proofs.notes.Notes.of.Goals as goal

pub unwrap-requires : goal.unwrap-requires
unwrap-requires c =
    let notes : AreNotes 0 c.args.processes c.args.pairs.now = search rules in
    let own = c.in_ok-own.ensures in
    c.extend_from_slice.ensures.succeeds (omega (arith, notes_length _ _ _ notes (omega arith), own.len, own.capacity))
