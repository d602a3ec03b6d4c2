use Rattle.std.proofs.Common.{◌≡◌, ◌<◌, ◌||◌, ◌^◌, ℕ, false}
use Rattle.kt_base.specs.Sets.{has}
use Rattle.kt_system.proofs.system.takes.joined.Given as goal

abbrev pub invariant-loop-number : goal.invariant-loop-number
invariant-loop-number l = record {
  both : (q : ℕ) → (has l.all q || has l.left q) ≡ (has l.fn.first q || has l.fn.second q);
  small : l.left < 2 ^ 64;
  passed : (q : ℕ) → q < l._number → has l.left q ≡ false;
}
