use Rattle.std.proofs.Common.{[], map, take}
use Rattle.kt_text.specs.Writing.{text_of, Sends}
use Rattle.kt_merge.specs.Spelling.{part_spelling}
use Rattle.kt_merge.proofs.writing.write_part.Given as goal

abbrev pub invariant-loop-row : goal.invariant-loop-row
invariant-loop-row g l = Sends (g.W.Write.contents l.fn.writer) (g.W.Write.contents l.writer) [] l.text.items (text_of (map part_spelling (take l.row-index l.rows)))
