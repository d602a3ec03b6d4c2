use Rattle.std.proofs.Common.{List, map, sym, subst}
use Rattle.kt_meaning.specs.Past.{start}
use Rattle.kt_walk.specs.Arrivals.{IsByPair}
use Rattle.kt_walk.specs.Pairs.{PairState, received_from_of, with_new, AreInUse, ShowsPairs}
use Rattle.kt_walk.proofs.NewPairs.{new_by_pair, new_in_use, pairs_start}
use Rattle.kt_walk.proofs.all_pairs.Pairs.new.Goals as goal

pub invariant_of-result : goal.invariant_of-result
invariant_of-result c = (subst (λ (x : List PairState). IsByPair (map received_from_of (with_new x))) (sym c.new.ensures.items) new_by_pair, subst (λ (x : List PairState). AreInUse x c.new-2.result) (sym c.new.ensures.items) (new_in_use c.new-2.result))

pub returns : goal.returns
returns c = subst (λ (x : List PairState). ShowsPairs (with_new x) start) (sym c.new.ensures.items) pairs_start
