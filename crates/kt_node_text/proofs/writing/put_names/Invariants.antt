use Rattle.std.specs.Prelude.{All}
use Rattle.std.proofs.Common.{take}
use Rattle.kt_node_text.specs.Form.{of_name}
use Rattle.kt_node_text.specs.Ranges.{IsNameIfAny}
use Rattle.kt_node_text.proofs.Rests.{IsWithRest}
use Rattle.kt_node_text.proofs.writing.put_names.Given as goal

abbrev pub invariant-loop-name : goal.invariant-loop-name
invariant-loop-name l = record {
  numbers : IsWithRest of_name l.initial.out.items l.names l.name-index l.out.items;
  range : All IsNameIfAny (take l.name-index l.names);
}
