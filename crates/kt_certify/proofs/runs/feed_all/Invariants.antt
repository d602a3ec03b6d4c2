use Rattle.std.proofs.Common.{take}
use Rattle.kt_walk.specs.WalkOf.{WalkOf}
use Rattle.kt_certify.specs.Instances.{AreInstancesOf}
use Rattle.kt_certify.proofs.runs.feed_all.Given as goal

abbrev pub invariant-loop-row : goal.invariant-loop-row
invariant-loop-row l = record {
  walk : WalkOf l.pass.walk (take l.row-index l.rows);
  instances : AreInstancesOf (take l.row-index l.rows) l.pass.instances.items;
}
