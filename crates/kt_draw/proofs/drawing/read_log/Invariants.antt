use Rattle.std.proofs.Common.{take}
use Rattle.kt_draw.specs.Followed.{ReadingOf}
use Rattle.kt_draw.proofs.drawing.read_log.Given as goal

abbrev pub invariant-loop-row : goal.invariant-loop-row
invariant-loop-row l = ReadingOf l.reading l.span (take l.row-index l.row-items)
