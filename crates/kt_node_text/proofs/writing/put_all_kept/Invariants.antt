use Rattle.std.specs.Prelude.{All}
use Rattle.std.proofs.Common.{◌≡◌, ◌<◌, ◌++◌, ℕ}
use Rattle.kt_manager.specs.Inboxes.{kept_of}
use Rattle.kt_node_text.specs.Form.{gather}
use Rattle.kt_node_text.specs.Ranges.{IsItem}
use Rattle.kt_node_text.proofs.GatheredReads.{list_form}
use Rattle.kt_node_text.proofs.writing.put_all_kept.Given as goal

abbrev pub invariant-loop-number : goal.invariant-loop-number
invariant-loop-number l = record {
  numbers : l.out.items ≡ l.initial.out.items ++ gather l.number (list_form (kept_of l.inbox));
  range : (q : ℕ) → q < l.number → All IsItem (kept_of l.inbox q);
}
