use Rattle.std.proofs.Common.{arith}
use Rattle.std.proofs.lemmas.Bool.Decides.{nat_tests}
use Rattle.kt_walk.proofs.TreeFacts.{marks_count}
use Rattle.kt_walk.proofs.counts.Counts.is_empty.Goals as goal

pub returns-clause-some : goal.returns-clause-some
returns-clause-some c =
    let h = c.self.invariant.leaves in
    let count = marks_count c.self.inside.nodes.items c.self.inside.width c.self.inside.base h in
    rw (← c.self.view_is) (λ e. grind (arith, nat_tests, count, h.some_left, e))
