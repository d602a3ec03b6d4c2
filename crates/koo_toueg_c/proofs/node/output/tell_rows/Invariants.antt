use Rattle.std.proofs.Common.{◌≡◌, ℕ, ◌<◌, Some, length}
use Rattle.std.specs.Prelude.{slice_get}
use Rattle.koo_toueg_c.specs.NodeNumbers.{row_numbers}
use Rattle.koo_toueg_c.proofs.node.output.tell_rows.Given as goal

abbrev pub invariant-loop-place : goal.invariant-loop-place
invariant-loop-place l = record {
  size : length l.told ≡ 4;
  told : (i : ℕ) → i < l.place → slice_get l.told i ≡ Some (row_numbers (slice_get l.rows i));
}
