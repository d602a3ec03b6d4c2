use Rattle.std.proofs.Common.{◌≡◌, ◌++◌, [], ℕ, List}
use Rattle.kt_node_text.specs.Form.{of_list}
use Rattle.kt_node_text.proofs.ListReads.{IsReadUpTo}
use Rattle.kt_node_text.proofs.numbers.Numbers.list.Given as goal

abbrev pub invariant-loop : goal.invariant-loop
invariant-loop l = (xs after : List ℕ) → l.fn.self.rest.now ≡ of_list xs ++ after →
    IsReadUpTo (λ (ns : List ℕ). ns) xs [] after l.counter l.list.items l.self.rest.now
