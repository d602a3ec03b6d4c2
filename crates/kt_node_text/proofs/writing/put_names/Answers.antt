use Rattle.kt_node_text.specs.Form.{of_name}
use Rattle.kt_node_text.specs.Ranges.{IsNameIfAny}
use Rattle.kt_node_text.proofs.Rests.{rest_more, range_more, range_all}
use Rattle.kt_node_text.proofs.writing.put_names.Goals as goal

pub loop-name-preserved : goal.loop-name-preserved
loop-name-preserved c =
    let name = c.name-item.result in record {
      numbers = rest_more of_name _ c.args.names.now _ name _ _ c.loop-name.invariant.numbers c.loop-name-test.true c.name-item.is c.in_ok-put_name.ensures.numbers;
      range = range_more IsNameIfAny c.args.names.now _ name c.loop-name.invariant.range c.loop-name-test.true c.name-item.is c.in_ok-put_name.ensures.range;
    }

pub returns-clause-range : goal.returns-clause-range
returns-clause-range c = range_all IsNameIfAny c.args.names.now _ c.loop-name.invariant.range c.loop-name-test.false
