use Rattle.std.proofs.Common.{◌≡◌, ◌≤◌, ◌-◌, arith, ap}
use Rattle.kt_spacetime.specs.declared.event.Event.TheVariants as event
use Rattle.std.proofs.lemmas.Bool.{and_parts}
use Rattle.kt_meaning.specs.Past.{past}
use Rattle.kt_meaning.proofs.LegalLogs.{kept, legal_last}
use Rattle.kt_checker.proofs.Gathering.{gathered_unwilling, never_past}
use Rattle.kt_checker.proofs.decisions.refuse.Goals as goal

pub returns-then-index-list : goal.returns-then-index-list
returns-then-index-list c = λ certs rows p cause h l.
    let few : 1 ≤ c.args.inst = omega (arith, c.get.ensures.value, c.get.ensures.in_range.0) in
    let index : c.get.result - 1 ≡ c.args.inst - 1 = ap (λ n. n - 1) c.get.ensures.value in
    rw (← c.index-list-index.is) (gathered_unwilling c.args.list.now rows p c.args.inst cause (c.get.result - 1) c.index-list-index.result index few c.if-index-list.true c.index-list-index.is h)

pub returns-else-index-list : goal.returns-else-index-list
returns-else-index-list c = λ certs rows p cause h l.
    let few : 1 ≤ c.args.inst = omega (arith, c.get.ensures.value, c.get.ensures.in_range.0) in
    let index : c.get.result - 1 ≡ c.args.inst - 1 = ap (λ n. n - 1) c.get.ensures.value in
    let numbers = (kept (past rows) (event.Unwilling p c.args.inst cause) (legal_last rows (event.Unwilling p c.args.inst cause) l).1).numbers in
    absurd (never_past c.args.list.now rows c.args.inst (c.get.result - 1) h (and_parts _ _ numbers).0 index few c.if-index-list.false)
