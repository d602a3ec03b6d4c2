use Rattle.std.proofs.Common.{suc, arith}
use Rattle.kt_fifo.proofs.Counting.{left_all, left_less, none_left, found_member, found_counted, found_none}
use Rattle.kt_fifo.proofs.counts.member_at.Goals as goal

pub loop-passed-init : goal.loop-passed-init
loop-passed-init c = (0, left_all c.args.set)

pub loop-passed-preserved : goal.loop-passed-preserved
loop-passed-preserved c =
    let inv = c.loop-passed.invariant in
    (suc c.in_ok-p.p, left_less c.args.set c.loop-passed.left inv.0 c.loop-passed._passed inv.1 c.without-left.result c.in_ok-p.p c.in_ok-p.ensures.member c.in_ok-p.ensures.least c.without-left.ensures.removed c.without-left.ensures.others)

pub returns-in_err-p-clause-none : goal.returns-in_err-p-clause-none
returns-in_err-p-clause-none c =
    let inv = c.loop-passed.invariant in
    let most = none_left c.args.set c.loop-passed.left inv.0 c.loop-passed._passed inv.1 c.in_err-p.ensures.none in
    let test = c.loop-passed-test.true in
    rw c.from_residual.ensures (omega (arith, most, test))

pub returns-clause-member : goal.returns-clause-member
returns-clause-member c =
    let inv = c.loop-passed.invariant in
    found_member c.args.set c.loop-passed.left inv.0 c.loop-passed._passed inv.1 c.first-2.result c.first-2.ensures.member

pub returns-clause-before : goal.returns-clause-before
returns-clause-before c =
    let inv = c.loop-passed.invariant in
    let over = c.loop-passed-test.false in
    let most = c.loop-passed.auto._passed-end in
    found_counted c.args.set c.loop-passed.left inv.0 c.loop-passed._passed inv.1 c.first-2.result c.first-2.ensures.member c.args.place (omega (arith, over, most)) c.first-2.ensures.least

pub returns-clause-none : goal.returns-clause-none
returns-clause-none c =
    let inv = c.loop-passed.invariant in
    let most = c.loop-passed.auto._passed-end in
    found_none c.args.set c.loop-passed.left inv.0 c.loop-passed._passed inv.1 c.first-2.result c.first-2.ensures.member c.args.place (omega (arith, most)) c.first-2.ensures.none
