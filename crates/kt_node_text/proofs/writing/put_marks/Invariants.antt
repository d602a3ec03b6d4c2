use Rattle.kt_node_text.proofs.Rests.{IsWithTail}
use Rattle.kt_node_text.proofs.writing.put_marks.Given as goal

abbrev pub invariant-loop-mark : goal.invariant-loop-mark
invariant-loop-mark l = IsWithTail l.initial.out.items l.marks l.mark-index l.out.items
