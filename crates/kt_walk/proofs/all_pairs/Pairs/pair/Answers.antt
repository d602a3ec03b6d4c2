use Rattle.std.proofs.Common.{◌+◌, ◌*◌, List, map, subst}
use Rattle.kt_walk.specs.Arrivals.{IsByPair}
use Rattle.kt_walk.specs.Pairs.{PairState, received_from_of}
use Rattle.kt_walk.proofs.NewPairs.{got_some, got_none}
use Rattle.kt_walk.proofs.all_pairs.Pairs.pair.Goals as goal

pub returns-clause-by_pair : goal.returns-clause-by_pair
returns-clause-by_pair c = subst (λ (x : List PairState). IsByPair (map received_from_of x)) c.self.view_is c.self.invariant.0

pub returns-clause-some : goal.returns-clause-some
returns-clause-some c = got_some c.self.inside.pairs.items c.args.self.now c.index_of.result (c.args.receiver * 64 + c.args.sender) c.get.result c.self.view_is c.index_of.ensures.value (rw c.deref.ensures.value at c.get.ensures.lookup)

pub returns-clause-none : goal.returns-clause-none
returns-clause-none c =
    let index = c.index_of.ensures in
    got_none c.self.inside.pairs.items c.args.self.now c.index_of.result c.args.receiver c.args.sender c.get.result c.self.view_is index.value index.receiver_in_range index.sender_in_range (rw c.deref.ensures.value at c.get.ensures.lookup)
