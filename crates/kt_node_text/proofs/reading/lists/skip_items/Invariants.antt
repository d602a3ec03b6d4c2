use Rattle.std.specs.Prelude.{All}
use Rattle.std.specs.List.{flat_map}
use Rattle.std.proofs.Common.{◌≡◌, ◌++◌, [], ℕ, List, take}
use Rattle.kt_manager.specs.declared.received.Item.{Item}
use Rattle.kt_node_text.specs.Form.{of_item, counted}
use Rattle.kt_node_text.specs.Ranges.{IsItem}
use Rattle.kt_node_text.proofs.ListReads.{IsReadUpTo}
use Rattle.kt_node_text.proofs.reading.lists.skip_items.Given as goal

abbrev pub invariant-loop : goal.invariant-loop
invariant-loop l = (xs : List Item) (after : List ℕ) → All IsItem xs → l.fn.numbers.rest.now ≡ counted of_item xs ++ after →
    IsReadUpTo (flat_map of_item) xs [] after l.counter (take l.counter xs) l.numbers.rest.now
