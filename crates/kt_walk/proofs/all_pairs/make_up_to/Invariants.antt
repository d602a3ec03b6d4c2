use Rattle.std.proofs.Common.{◌≡◌, length}
use Rattle.kt_walk.specs.Pairs.{with_new}
use Rattle.kt_walk.proofs.all_pairs.make_up_to.Given as goal

abbrev pub invariant-loop-number : goal.invariant-loop-number
invariant-loop-number l = record {
  same : with_new l.pairs.items ≡ with_new l.initial.pairs.items;
  next : l.number ≡ length l.pairs.items;
}
