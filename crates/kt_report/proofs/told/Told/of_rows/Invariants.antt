use Rattle.std.proofs.Common.{◌≤◌, take}
use Rattle.kt_report.specs.Told.{Tells}
use Rattle.kt_report.proofs.told.Told.of_rows.Given as goal

abbrev pub invariant-loop-row : goal.invariant-loop-row
invariant-loop-row l = record {
  few : l.told.dropped ≤ l.row-index;
  tells : Tells l.told (take l.row-index l.rows);
}
