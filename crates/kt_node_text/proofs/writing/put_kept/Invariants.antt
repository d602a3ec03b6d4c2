use Rattle.std.specs.Prelude.{All}
use Rattle.std.proofs.Common.{take}
use Rattle.kt_manager.specs.Inboxes.{kept_of}
use Rattle.kt_node_text.specs.Form.{of_item}
use Rattle.kt_node_text.specs.Ranges.{IsItem}
use Rattle.kt_node_text.proofs.Rests.{IsWithRest}
use Rattle.kt_node_text.proofs.writing.put_kept.Given as goal

abbrev pub invariant-loop-place : goal.invariant-loop-place
invariant-loop-place l = record {
  numbers : IsWithRest of_item l.initial.out.items (kept_of l.inbox l.from) l.place l.out.items;
  range : All IsItem (take l.place (kept_of l.inbox l.from));
}
