use Rattle.std.proofs.Common.{◌≡◌, ◌≤◌, ◌-◌, count_by}
use Rattle.std.specs.Prelude.{slice_get}
use Rattle.std.specs.List.{range_with_len}
use Rattle.kt_meaning.specs.Past.{past}
use Rattle.kt_walk.specs.WalkOf.{WalkOf}
use Rattle.kt_report.specs.Exact.{is_lost}
use Rattle.kt_report.proofs.losses.lost_after.Given as goal

abbrev pub invariant-loop-place : goal.invariant-loop-place
invariant-loop-place l = record {
  few : l.lost ≤ l.place;
  count : WalkOf l.walk l.rows → l.lost ≡ count_by (λ msg. is_lost (past l.rows) msg (slice_get l.rows (msg - 1))) (range_with_len 1 l.place);
}
