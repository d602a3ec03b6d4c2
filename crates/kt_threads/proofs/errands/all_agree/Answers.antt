use Rattle.std.proofs.Common.{rules, ◌≡◌, arith, true}
use Rattle.kt_threads.proofs.Noting.{agreed_next}
use Rattle.kt_threads.proofs.errands.all_agree.Goals as goal

pub loop-p-preserved : goal.loop-p-preserved
loop-p-preserved g c =
    let agrees : c.agrees.result ≡ true = search rules in
    agreed_next c.args.done.now c.args.asked.now c.loop-p.p c.index-done-p.result (omega arith) c.index-done-p.is
    (search rules) (c.agrees.ensures agrees) c.loop-p.invariant

pub loop-p-init : goal.loop-p-init
loop-p-init g c = λ p l. absurd (omega (arith, l))

pub returns-clause-same : goal.returns-clause-same
returns-clause-same g c = λ _ p l. c.loop-p.invariant p (omega arith)
