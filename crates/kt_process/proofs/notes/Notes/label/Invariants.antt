use Rattle.std.proofs.Common.{◌≡◌, drop}
use Rattle.kt_process.specs.Notes.{find_note}
use Rattle.kt_process.proofs.notes.Notes.label.Given as goal

abbrev pub invariant-loop-pair : goal.invariant-loop-pair
invariant-loop-pair l = find_note l.self.pairs l.process ≡ find_note (drop l.pair-index l.self.pairs) l.process
