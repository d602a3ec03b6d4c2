use Rattle.std.proofs.Common.{arith, rules}
use Rattle.kt_tables.proofs.TableTests.{most_none, most_more, most_all, most_not}
use Rattle.kt_tables.proofs.peers.are_at_most.Goals as goal

pub loop-pair-init : goal.loop-pair-init
loop-pair-init c = most_none _ _

pub returns-then-get : goal.returns-then-get
returns-then-get c = λ n t. (
  λ r. search rules,
  λ f. absurd (most_not _ n _ _ c.pair-item.result c.loop-pair.invariant c.loop-pair-test.true c.pair-item.is
      (omega (arith, c.get.ensures.value, c.get-in-loop-pair.ensures.value, c.if-get.true)) t f),
)

pub loop-pair-preserved : goal.loop-pair-preserved
loop-pair-preserved c =
    most_more _ _ _ c.pair-item.result c.loop-pair.invariant c.loop-pair-test.true c.pair-item.is
    (omega (arith, c.get.ensures.value, c.get-in-loop-pair.ensures.value, c.if-get.false))

pub returns : goal.returns
returns c = λ n t. (λ r q. most_all _ _ _ q c.loop-pair.invariant c.loop-pair-test.false, λ f. search rules)
