use Rattle.std.proofs.Common.{[], ◌∷◌, map, take}
use Rattle.kt_text.specs.Writing.{text_of, Sends}
use Rattle.kt_log_text.specs.Spelling.{spelling}
use Rattle.kt_log_text.specs.Texts.{header}
use Rattle.kt_log_text.proofs.writing.write_csv.Given as goal

abbrev pub invariant-loop-row : goal.invariant-loop-row
invariant-loop-row g l = Sends (g.W.Write.contents l.fn.writer) (g.W.Write.contents l.writer) [] l.text.items (text_of (header ∷ map spelling (take l.row-index l.rows)))
