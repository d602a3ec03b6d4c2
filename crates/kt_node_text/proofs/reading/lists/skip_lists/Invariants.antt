use Rattle.std.proofs.Common.{◌≡◌, ◌++◌, ℕ, List}
use Rattle.kt_node_text.specs.Form.{of_lists}
use Rattle.kt_node_text.specs.Ranges.{AreLists}
use Rattle.kt_node_text.proofs.GatheredReads.{Lists, ArePassed}
use Rattle.kt_node_text.proofs.reading.lists.skip_lists.Given as goal

abbrev pub invariant-loop-number : goal.invariant-loop-number
invariant-loop-number l = (lists : Lists) (after : List ℕ) → AreLists l.size lists → l.fn.numbers.rest.now ≡ of_lists l.size lists ++ after →
    ArePassed lists l.size after l._number l.numbers.rest.now
