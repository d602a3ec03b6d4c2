use Rattle.std.proofs.Common.{◌≤◌, length, arith}
use Rattle.kt_explain.proofs.SameLists.{same_members}
use Rattle.kt_explain.proofs.compared.first_unlike.Goals as goal

pub returns-clause-same : goal.returns-clause-same
returns-clause-same c =
    let listed : length c.args.listed.now ≤ c.max-count.result = omega (arith, c.max-count.ensures) in
    let meant : length c.args.meant.now ≤ c.max-count.result = omega (arith, c.max-count.ensures) in
    same_members c.args.chains c.args.listed.now c.args.meant.now c.max-count.result listed meant
    (λ n low. c.loop-index.invariant n (omega (arith, low, c.loop-index-test.false)))
