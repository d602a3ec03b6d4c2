use Rattle.std.proofs.Common.{◌≡◌, ℕ, ◌+◌, ◌<◌, ◌≤◌, length}
use Rattle.std.specs.Prelude.{slice_index}
use Rattle.kt_manager.specs.Effects.{put_to}
use Rattle.kt_node.proofs.node.counted_each.Given as goal

abbrev pub invariant-loop-number : goal.invariant-loop-number
invariant-loop-number l = record {
  size : length l.counts ≡ length l.before;
  counted : (q : ℕ) → q < l.number → slice_index l.counts q ≡ slice_index l.before q + length (put_to l.parcels q);
  others : (q : ℕ) → l.number ≤ q → slice_index l.counts q ≡ slice_index l.before q;
}
