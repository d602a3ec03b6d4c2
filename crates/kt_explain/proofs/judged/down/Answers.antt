use Rattle.std.proofs.Common.{ℕ, Bool, ap, arith}
use Rattle.std.specs.Prelude.{not}
use Rattle.kt_meaning.specs.Past.{past}
use Rattle.kt_explain.proofs.FilledSets.{filled_more}
use Rattle.kt_explain.proofs.judged.down.Goals as goal

pub loop-number-init : goal.loop-number-init
loop-number-init c = λ rows h. record { known = λ p low. absurd (omega (arith, low)); rest = λ p low. c.empty-set.ensures p }

pub loop-number-preserved : goal.loop-number-preserved
loop-number-preserved c = λ rows h.
    filled_more (λ (p : ℕ). not ((past rows).up p)) c.loop-number.number c.loop-number.set c.with_if-set.result c.nth-p.result (not c.is_up.result)
    c.nth-p.ensures (ap (λ (b : Bool). not b) (c.is_up.ensures rows h)) c.with_if-set.ensures.itself c.with_if-set.ensures.others (c.loop-number.invariant rows h)

pub returns : goal.returns
returns c = λ rows p h low. (c.loop-number.invariant rows h).known p (omega (arith, low, c.loop-number-test.false))
