use Rattle.std.proofs.Common.{◌≡◌, ℕ, ◌<◌, Some, length}
use Rattle.std.specs.Prelude.{slice_get}
use Rattle.koo_toueg_c.specs.NodeNumbers.{act_told}
use Rattle.koo_toueg_c.proofs.node.output.tell_acts.Given as goal

abbrev pub invariant-loop-place : goal.invariant-loop-place
invariant-loop-place l = record {
  size : length l.told ≡ 2;
  told : (i : ℕ) → i < l.place → slice_get l.told i ≡ Some (act_told (slice_get l.acts i));
}
