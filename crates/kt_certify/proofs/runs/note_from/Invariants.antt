use Rattle.std.proofs.Common.{take}
use Rattle.kt_certify.specs.Instances.{AreInstancesOf}
use Rattle.kt_certify.proofs.runs.note_from.Given as goal

abbrev pub invariant-loop-place : goal.invariant-loop-place
invariant-loop-place l = AreInstancesOf (take l.place l.rows) l.pass.instances.items
