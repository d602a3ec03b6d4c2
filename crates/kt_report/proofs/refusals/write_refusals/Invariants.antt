use Rattle.std.proofs.Common.{take}
use Rattle.std.specs.List.{flat_map}
use Rattle.kt_text.specs.Writing.{Sends}
use Rattle.kt_report.specs.Lines.{refusal_line}
use Rattle.kt_report.proofs.refusals.write_refusals.Given as goal

abbrev pub invariant-loop-row : goal.invariant-loop-row
invariant-loop-row g l = Sends (g.W.Write.contents l.fn.writer) (g.W.Write.contents l.writer) l.fn.text.items l.text.items (flat_map (refusal_line l.names) (take l.row-index l.rows))
