use Rattle.std.specs.Prelude.{All}
use Rattle.std.proofs.Common.{take}
use Rattle.kt_manager.specs.Inboxes.{held_of}
use Rattle.kt_node_text.specs.Form.{of_item}
use Rattle.kt_node_text.specs.Ranges.{IsItem}
use Rattle.kt_node_text.proofs.Rests.{IsWithRest}
use Rattle.kt_node_text.proofs.writing.put_held.Given as goal

abbrev pub invariant-loop-place : goal.invariant-loop-place
invariant-loop-place l = record {
  numbers : IsWithRest of_item l.initial.out.items (held_of l.inbox l.from) l.place l.out.items;
  range : All IsItem (take l.place (held_of l.inbox l.from));
}
