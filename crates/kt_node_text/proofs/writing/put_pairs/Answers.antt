use Rattle.std.proofs.Common.{◌≡◌, ◌++◌, subst, rules}
use Rattle.kt_base.specs.Numbers.{IsProcNo, IsLabel}
use Rattle.kt_node_text.specs.Form.{of_pair}
use Rattle.kt_node_text.specs.Ranges.{IsPair}
use Rattle.kt_node_text.proofs.Rests.{rest_more, range_more, range_all}
use Rattle.kt_node_text.proofs.writing.put_pairs.Goals as goal

pub loop-pair-preserved : goal.loop-pair-preserved
loop-pair-preserved c =
    let pair = c.pair-item.result in
    let added : c.extend_from_slice.new.self.items ≡ c.loop-pair.out.items ++ of_pair pair = search rules in
    record {
      numbers = rest_more of_pair _ c.args.pairs.now _ pair _ _ c.loop-pair.invariant.numbers c.loop-pair-test.true c.pair-item.is added;
      range = range_more IsPair c.args.pairs.now _ pair c.loop-pair.invariant.range c.loop-pair-test.true c.pair-item.is
          (subst IsProcNo c.get.ensures.value c.get.ensures.in_range, subst IsLabel c.get-in-loop-pair.ensures.value c.get-in-loop-pair.ensures.in_range);
    }

pub returns-clause-range : goal.returns-clause-range
returns-clause-range c = range_all IsPair c.args.pairs.now _ c.loop-pair.invariant.range c.loop-pair-test.false
