use Rattle.std.specs.Prelude.{All}
use Rattle.std.proofs.Common.{take}
use Rattle.kt_node_text.specs.Form.{of_pair}
use Rattle.kt_node_text.specs.Ranges.{IsPair}
use Rattle.kt_node_text.proofs.Rests.{IsWithRest}
use Rattle.kt_node_text.proofs.writing.put_pairs.Given as goal

abbrev pub invariant-loop-pair : goal.invariant-loop-pair
invariant-loop-pair l = record {
  numbers : IsWithRest of_pair l.initial.out.items l.pairs l.pair-index l.out.items;
  range : All IsPair (take l.pair-index l.pairs);
}
