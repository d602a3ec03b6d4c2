use Rattle.std.proofs.Common.{length, refl, arith}
use Rattle.std.proofs.lemmas.Option.{slice_get_read}
use Rattle.kt_walk.proofs.HeldFacts.{counted_more}
use Rattle.kt_walk.proofs.lookup.count_all.Goals as goal

pub loop-pair-preserved : goal.loop-pair-preserved
loop-pair-preserved c =
    let at = slice_get_read c.args.pairs.now (length c.args.pairs.now) c.loop-pair.pair-index c.pair-item.result refl c.loop-pair-test.true c.pair-item.is in
    record {
      count = counted_more c.args.pairs.now c.loop-pair.pair-index c.loop-pair.count c.count.result c.saturating_add-count.result c.pair-item.result at c.loop-pair.invariant.count c.count.ensures (λ low. omega (arith, c.saturating_add-count.ensures, low));
    }
