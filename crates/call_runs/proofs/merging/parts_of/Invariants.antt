use Rattle.std.proofs.Common.{◌≤◌, length}
use Rattle.kt_merge.specs.Merging.{ArePartsUnread}
use Rattle.call_runs.proofs.merging.parts_of.Given as goal

abbrev pub invariant-loop : goal.invariant-loop
invariant-loop l = ArePartsUnread l.parts × (length l.parts ≤ 64)
