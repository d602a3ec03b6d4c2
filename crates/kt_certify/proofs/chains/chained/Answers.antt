use Rattle.std.proofs.Common.{length, refl}
use Rattle.std.proofs.lemmas.Option.{slice_get_read}
use Rattle.kt_meaning.proofs.Chained.{one_more, all_more}
use Rattle.kt_certify.proofs.chains.chained.Goals as goal

pub loop-p-preserved : goal.loop-p-preserved
loop-p-preserved c =
    let joined = c.args.joined.now in
    let at = slice_get_read joined (length joined) c.loop-p.p-index c.p-item.result refl c.loop-p-test.true c.p-item.is in
    record {
      members = λ rows h. one_more rows c.args.inst c.args.kind c.args.initiator joined c.loop-p.p-index c.p-item.result c.loop-p.members c.list.result.now _ c.in_ok-chain.field-0 c.in-Some.chain at (c.loop-p.invariant.members rows h) c.list.ensures (c.in_ok-chain.ensures rows h) c.in-Some.is c.in_ok-push.ensures.ok;
      all = λ rows h. all_more rows c.args.inst c.args.kind c.args.initiator joined c.loop-p.p-index c.p-item.result c.loop-p.members c.list.result.now c.in_ok-chain.field-0 c.in-Some.chain at (c.loop-p.invariant.members rows h) c.list.ensures (c.in_ok-chain.ensures rows h) c.in-Some.is (c.loop-p.invariant.all rows h);
    }
