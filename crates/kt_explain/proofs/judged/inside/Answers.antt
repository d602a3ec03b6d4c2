use Rattle.std.proofs.Common.{ℕ, arith}
use Rattle.kt_meaning.specs.Past.{past}
use Rattle.kt_meaning.specs.Legal.{is_in}
use Rattle.kt_explain.proofs.FilledSets.{filled_more}
use Rattle.kt_explain.proofs.judged.inside.Goals as goal

pub loop-number-init : goal.loop-number-init
loop-number-init c = λ rows h. record { known = λ p low. absurd (omega (arith, low)); rest = λ p low. c.empty-set.ensures p }

pub loop-number-preserved : goal.loop-number-preserved
loop-number-preserved c = λ rows h.
    filled_more (λ (p : ℕ). is_in (past rows) p c.args.inst) c.loop-number.number c.loop-number.set c.with_if-set.result c.nth-p.result c.is_in.result
    c.nth-p.ensures (c.is_in.ensures rows h) c.with_if-set.ensures.itself c.with_if-set.ensures.others (c.loop-number.invariant rows h)

pub returns : goal.returns
returns c = λ rows p h low. (c.loop-number.invariant rows h).known p (omega (arith, low, c.loop-number-test.false))
