use Rattle.std.proofs.Common.{◌≡◌, ◌≤◌, ◌-◌, arith, ap}
use Rattle.kt_spacetime.specs.declared.event.Event.TheVariants as event
use Rattle.kt_meaning.specs.Past.{past}
use Rattle.kt_meaning.proofs.LegalLogs.{kept, legal_last}
use Rattle.kt_checker.proofs.Gathering.{gathered_decided, never_past}
use Rattle.kt_checker.proofs.decisions.decide.Goals as goal

pub returns-then-index-list : goal.returns-then-index-list
returns-then-index-list c = λ certs rows p h number l finding.
    let few : 1 ≤ c.args.decision.now.inst = omega (arith, c.get.ensures.value, c.get.ensures.in_range.0) in
    let index : c.get.result - 1 ≡ c.args.decision.now.inst - 1 = ap (λ n. n - 1) c.get.ensures.value in
    rw (← c.index-list-index.is) (gathered_decided c.args.list.now rows p c.args.decision.now (c.get.result - 1) c.index-list-index.result index few c.if-index-list.true c.index-list-index.is number finding h)

pub returns-else-index-list : goal.returns-else-index-list
returns-else-index-list c = λ certs rows p h number l finding.
    let few : 1 ≤ c.args.decision.now.inst = omega (arith, c.get.ensures.value, c.get.ensures.in_range.0) in
    let index : c.get.result - 1 ≡ c.args.decision.now.inst - 1 = ap (λ n. n - 1) c.get.ensures.value in
    let numbers = (kept (past rows) (event.Decided p c.args.decision.now.inst c.args.decision.now.commit) (legal_last rows (event.Decided p c.args.decision.now.inst c.args.decision.now.commit) l).1).numbers in
    absurd (never_past c.args.list.now rows c.args.decision.now.inst (c.get.result - 1) h numbers index few c.if-index-list.false)
