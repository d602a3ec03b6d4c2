use Rattle.std.proofs.Common.{◌≡◌, take, map}
use Rattle.kt_report.proofs.OfferFacts.{new_offers}
use Rattle.kt_report.proofs.replay.new_objects.Given as goal

abbrev pub invariant-loop-kind : goal.invariant-loop-kind
invariant-loop-kind l = l.objects.items ≡ map new_offers (take l.kind-index l.kinds)
