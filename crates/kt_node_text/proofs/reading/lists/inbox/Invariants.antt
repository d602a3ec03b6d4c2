use Rattle.std.proofs.Common.{◌≡◌, ◌≤◌, ◌++◌, [], ℕ, List}
use Rattle.kt_manager.specs.Inboxes.{processes_of, kept_of, held_of}
use Rattle.kt_node_text.specs.Form.{of_lists}
use Rattle.kt_node_text.specs.Ranges.{AreLists}
use Rattle.kt_node_text.proofs.GatheredReads.{Lists, AreReadUpTo}
use Rattle.kt_node_text.proofs.reading.lists.inbox.Given as goal

abbrev pub invariant-loop-number : goal.invariant-loop-number
invariant-loop-number l = record {
  processes : processes_of l.inbox ≡ l.size;
  none : (q : ℕ) → l.number ≤ q → held_of l.inbox q ≡ [];
  held : (held kept : Lists) (after : List ℕ) → AreLists l.size held → AreLists l.size kept → l.fn.numbers.rest.now ≡ of_lists l.size held ++ (of_lists l.size kept ++ after) →
      AreReadUpTo held l.size (of_lists l.size kept ++ after) l.number (held_of l.inbox) l.held.rest.now;
  kept : (held kept : Lists) (after : List ℕ) → AreLists l.size held → AreLists l.size kept → l.fn.numbers.rest.now ≡ of_lists l.size held ++ (of_lists l.size kept ++ after) →
      AreReadUpTo kept l.size after l.number (kept_of l.inbox) l.numbers.rest.now;
}
