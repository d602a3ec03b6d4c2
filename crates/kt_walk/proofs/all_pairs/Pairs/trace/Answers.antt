use Rattle.kt_walk.specs.Pairs.{with_new}
use Rattle.kt_walk.proofs.HeldFacts.{all_found}
use Rattle.kt_walk.proofs.NewPairs.{found_with, missed_with}
use Rattle.kt_walk.proofs.all_pairs.Pairs.trace.Goals as goal

pub returns : goal.returns
returns c =
    let items = c.self.inside.pairs.items in
    all_found (with_new items) c.args.self.now c.args.msg c.first_trace.result c.self.view_is c.self.invariant.0
    (found_with items c.args.msg c.first_trace.result (rw c.deref.ensures.value at c.first_trace.ensures.found)) (missed_with items c.args.msg c.first_trace.result (rw c.deref.ensures.value at c.first_trace.ensures.none))
