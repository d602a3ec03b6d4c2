use Rattle.std.proofs.Common.{◌≡◌, ◌≤◌, ◌-◌, arith, ap, refl}
use Rattle.kt_spacetime.specs.declared.event.Event.TheVariants as event
use Rattle.kt_meaning.specs.Past.{past}
use Rattle.kt_meaning.proofs.LegalLogs.{kept, legal_last}
use Rattle.kt_checker.proofs.Gathering.{gathered_took, gathered_ready, never_past}
use Rattle.kt_checker.proofs.decisions.join.Goals as goal

pub returns-in_ok-push-clause-took : goal.returns-in_ok-push-clause-took
returns-in_ok-push-clause-took c = λ certs rows h l.
    let few : 1 ≤ c.args.inst = omega (arith, c.get.ensures.value, c.get.ensures.in_range.0) in
    let index : c.get.result - 1 ≡ c.args.inst - 1 = ap (λ n. n - 1) c.get.ensures.value in
    rw (← c.index-list-index.is) (gathered_took c.args.list.now rows c.args.p c.args.inst (c.get.result - 1) c.index-list-index.result _ index few c.if-index-list.true c.index-list-index.is refl refl refl (rw (← c.index-list-index.is) at c.in_ok-push.ensures.items) h)

pub returns-in_ok-push-clause-ready : goal.returns-in_ok-push-clause-ready
returns-in_ok-push-clause-ready c = λ certs rows h l.
    let few : 1 ≤ c.args.inst = omega (arith, c.get.ensures.value, c.get.ensures.in_range.0) in
    let index : c.get.result - 1 ≡ c.args.inst - 1 = ap (λ n. n - 1) c.get.ensures.value in
    rw (← c.index-list-index.is) (gathered_ready c.args.list.now rows c.args.p c.args.inst (c.get.result - 1) c.index-list-index.result _ index few c.if-index-list.true c.index-list-index.is refl refl refl (rw (← c.index-list-index.is) at c.in_ok-push.ensures.items) h)

pub returns-else-index-list-clause-took : goal.returns-else-index-list-clause-took
returns-else-index-list-clause-took c = λ certs rows h l.
    let few : 1 ≤ c.args.inst = omega (arith, c.get.ensures.value, c.get.ensures.in_range.0) in
    let index : c.get.result - 1 ≡ c.args.inst - 1 = ap (λ n. n - 1) c.get.ensures.value in
    let numbers = (kept (past rows) (event.Took c.args.p c.args.inst) (legal_last rows (event.Took c.args.p c.args.inst) l).1).numbers in
    absurd (never_past c.args.list.now rows c.args.inst (c.get.result - 1) h numbers index few c.if-index-list.false)

pub returns-else-index-list-clause-ready : goal.returns-else-index-list-clause-ready
returns-else-index-list-clause-ready c = λ certs rows h l.
    let few : 1 ≤ c.args.inst = omega (arith, c.get.ensures.value, c.get.ensures.in_range.0) in
    let index : c.get.result - 1 ≡ c.args.inst - 1 = ap (λ n. n - 1) c.get.ensures.value in
    let numbers = (kept (past rows) (event.Ready c.args.p c.args.inst) (legal_last rows (event.Ready c.args.p c.args.inst) l).1).numbers in
    absurd (never_past c.args.list.now rows c.args.inst (c.get.result - 1) h numbers index few c.if-index-list.false)
