use Rattle.std.proofs.Common.{ℕ, ◌≤◌, arith, sym, subst}
use Rattle.kt_node.proofs.Counts.{zero_each}
use Rattle.kt_node.proofs.node.Node.new.Goals as goal

none_above : (q : ℕ) → 0 ≤ 0
none_above q = omega arith

pub invariant_of-result : goal.invariant_of-result
invariant_of-result c = record {
  clock = omega arith;
  sent = λ q. subst (λ (n : ℕ). n ≤ 0) (sym (zero_each 64 q)) (none_above q);
  taken = λ q. subst (λ (n : ℕ). n ≤ 0) (sym (zero_each 64 q)) (none_above q);
}

pub returns-clause-sent : goal.returns-clause-sent
returns-clause-sent c = λ q. zero_each 64 q

pub returns-clause-taken : goal.returns-clause-taken
returns-clause-taken c = λ q. zero_each 64 q

pub returns-clause-shows : goal.returns-clause-shows
returns-clause-shows c = record { manager = c.in_ok-new.ensures.shows; reaches = c.none.ensures }
