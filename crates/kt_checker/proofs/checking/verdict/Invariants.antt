use Rattle.std.proofs.Common.{◌≡◌, List, length}
use Rattle.kt_spacetime.specs.declared.event.Event.{Event}
use Rattle.kt_meaning.specs.Legal.{IsLegal}
use Rattle.kt_checker.specs.Gathered.{Gathered}
use Rattle.kt_meaning.specs.Passing.{PassBefore}
use Rattle.kt_checker.proofs.Marking.{IsMarkedBy, HasMarked}
use Rattle.kt_checker.proofs.checking.verdict.Given as goal

abbrev pub invariant-loop-certificate : goal.invariant-loop-certificate
invariant-loop-certificate l = record {
  many : length l.seen.items ≡ length l.instances.list.items;
  passed : (rows : List Event) → IsLegal rows → Gathered l.certificates l.instances.list.items rows → PassBefore rows l.certificates l.certificate-index;
  marked : IsMarkedBy l.seen.items l.certificates l.certificate-index;
  marks : HasMarked l.seen.items l.certificates l.certificate-index;
}
