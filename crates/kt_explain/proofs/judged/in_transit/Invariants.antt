use Rattle.std.proofs.Common.{◌≡◌, ◌≤◌, ℕ, true, length}
use Rattle.std.specs.Prelude.{◌↔◌, Contains}
use Rattle.kt_base.specs.Sets.{has}
use Rattle.kt_explain.proofs.Receivers.{receivers_to}
use Rattle.kt_explain.proofs.judged.in_transit.Given as goal

abbrev pub invariant-loop-place : goal.invariant-loop-place
invariant-loop-place l = record {
  few : l.transit.count ≤ l.place;
  count : l.transit.count ≡ length (receivers_to l.rows l.place);
  receivers : (q : ℕ) → has l.transit.receivers q ≡ true ↔ Contains (receivers_to l.rows l.place) q;
}
