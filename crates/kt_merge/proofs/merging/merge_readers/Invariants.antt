use Rattle.std.proofs.Common.{◌-◌}
use Rattle.kt_merge.proofs.MergingFacts.{IsMerging}
use Rattle.kt_merge.proofs.merging.merge_readers.Given as goal

abbrev pub invariant-loop-part : goal.invariant-loop-part
invariant-loop-part g l = IsMerging l.fn.parts.items l.parts.items l.heads.items l.numbers (g.W.Write.contents l.fn.writer) (g.W.Write.contents l.writer) l.text.items

abbrev pub decreases-loop-part : goal.decreases-loop-part
decreases-loop-part g l = 16777216 - l.numbers.rows
