use Rattle.std.proofs.Common.{List, sym, subst}
use Rattle.std.specs.List.{slice_index}
use Rattle.kt_walk.specs.Pairs.{PairState, ShowsPairs, with_new}
use Rattle.kt_walk.proofs.PairsFacts.{busy_if_orphan, least_of_pairs, some_in_pairs}
use Rattle.kt_walk.proofs.NewPairs.{few_there, there_if_busy, orphan_with}
use Rattle.kt_walk.proofs.all_pairs.Pairs.orphan.Goals as goal

pub least_orphan_of-requires : goal.least_orphan_of-requires
least_orphan_of-requires c = rw c.deref.ensures.value (few_there c.self.inside.pairs.items c.self.invariant.0)

pub returns-clause-orphan : goal.returns-clause-orphan
returns-clause-orphan c =
    some_in_pairs (with_new c.self.inside.pairs.items) c.args.self.now c.self.inside.used c.args.cut.now c.least_orphan_of.result c.self.view_is
    (orphan_with c.self.inside.pairs.items c.self.inside.used (slice_index c.args.cut.now) c.least_orphan_of.result (rw c.deref.ensures.value at c.least_orphan_of.ensures.orphan))

pub returns-clause-least : goal.returns-clause-least
returns-clause-least c = λ s p q m h keeps o.
    let known = rw c.deref.ensures.value at c.least_orphan_of.ensures.least in
    least_of_pairs (with_new c.self.inside.pairs.items) s c.args.cut.now p q m c.least_orphan_of.result c.self.invariant.0 (subst (λ (x : List PairState). ShowsPairs x s) (sym c.self.view_is) h) keeps o
    (λ k v at receiver sender last_permanent shown orphan.
    let busy = busy_if_orphan v (slice_index c.args.cut.now) s m last_permanent shown orphan in
    let here = there_if_busy c.self.inside.pairs.items k v at busy in
    known k v s m (c.self.invariant.1.each k v here busy) here last_permanent shown orphan)
