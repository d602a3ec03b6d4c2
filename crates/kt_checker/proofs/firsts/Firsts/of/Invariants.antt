use Rattle.kt_checker.specs.Judged.{AreFirsts}
use Rattle.kt_checker.proofs.firsts.Firsts.of.Given as goal

abbrev pub invariant-loop-index : goal.invariant-loop-index
invariant-loop-index l = AreFirsts l.places.items l.certificates l.index
