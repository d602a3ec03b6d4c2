use Rattle.std.proofs.Common.{take}
use Rattle.std.specs.List.{flat_map}
use Rattle.kt_text.specs.Writing.{Sends}
use Rattle.kt_report.specs.Unwilling.{answer_line}
use Rattle.kt_report.proofs.instances.write_unwilling.Given as goal

abbrev pub invariant-loop-answer : goal.invariant-loop-answer
invariant-loop-answer g l = Sends (g.W.Write.contents l.fn.writer) (g.W.Write.contents l.writer) l.fn.text.items l.text.items (flat_map (answer_line l.names) (take l.answer-index l.unwilling))
