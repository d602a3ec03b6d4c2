use Rattle.std.proofs.Common.{◌≡◌, length}
use Rattle.kt_merge.proofs.StopFacts.{HoldFirst}
use Rattle.kt_merge.proofs.merging.read_heads.Given as goal

abbrev pub invariant-loop-part : goal.invariant-loop-part
invariant-loop-part g l = HoldFirst l.fn.parts.items l.parts.items l.heads.items l.part × (l.part-end ≡ length l.fn.parts.items)
