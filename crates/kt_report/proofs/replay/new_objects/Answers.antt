use Rattle.std.proofs.Common.{arith}
use Rattle.kt_report.proofs.OfferFacts.{new_more}
use Rattle.kt_report.proofs.replay.new_objects.Goals as goal

pub loop-kind-preserved : goal.loop-kind-preserved
loop-kind-preserved c = new_more c.args.kinds.now c.loop-kind.kind-index _ _ _ (omega arith) c.loop-kind.invariant c.new.ensures c.in_ok-push.ensures.items
