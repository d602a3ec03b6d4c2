use Rattle.std.proofs.Common.{◌≡◌, ℕ, ◌<◌, Some, length}
use Rattle.std.specs.Prelude.{slice_get}
use Rattle.koo_toueg_c.specs.NodeNumbers.{parcel_numbers}
use Rattle.koo_toueg_c.specs.Nodes.{parcel_for}
use Rattle.koo_toueg_c.proofs.node.output.tell_each.Given as goal

abbrev pub invariant-loop-number : goal.invariant-loop-number
invariant-loop-number l = record {
  size : length l.told ≡ 64;
  told : (q : ℕ) → q < l.number → slice_get l.told q ≡ Some (parcel_numbers (parcel_for l.out q));
}
