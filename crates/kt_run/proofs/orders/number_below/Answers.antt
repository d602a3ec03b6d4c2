use Rattle.std.proofs.Common.{◌-◌, ◌∙◌, arith, refl, sym}
use Rattle.kt_run.proofs.Drawing.{drawn_here, drawn_again, drawn_none}
use Rattle.kt_run.proofs.orders.number_below.Goals as goal

pub loop-number-init : goal.loop-number-init
loop-number-init c = (64, omega arith, refl)

pub loop-number-preserved : goal.loop-number-preserved
loop-number-preserved c =
    let inv = c.loop-number.invariant in
    let test = c.loop-number-test.true in
    let count = inv.1 in
    (inv.0 - 1, omega (arith, test, count), inv.2 ∙ drawn_again inv.0 c.args.count c.loop-number.generator c.next_word-word.result c.next_word-word.new.self (omega (arith, test, count)) c.next_word-word.ensures c.if-word-even.false)

pub returns-then-word-even-clause-drawn : goal.returns-then-word-even-clause-drawn
returns-then-word-even-clause-drawn c =
    let inv = c.loop-number.invariant in
    let test = c.loop-number-test.true in
    let count = inv.1 in
    drawn_here inv.0 c.args.count c.loop-number.generator c.next_word-word.result c.next_word-word.new.self (omega (arith, test, count)) c.next_word-word.ensures c.if-word-even.true ∙ sym inv.2

pub returns-clause-drawn : goal.returns-clause-drawn
returns-clause-drawn c =
    let inv = c.loop-number.invariant in
    let over = c.loop-number-test.false in
    let count = inv.1 in
    drawn_none inv.0 c.args.count c.loop-number.generator (omega (arith, over, count)) ∙ sym inv.2
