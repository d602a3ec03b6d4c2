use Rattle.std.proofs.Common.{◌≡◌, length, take}
use Rattle.kt_meaning.specs.Legal.{IsLegal}
use Rattle.kt_report.specs.Shown.{ReplayOf}
use Rattle.kt_report.proofs.replay.Replay.of_rows.Given as goal

abbrev pub invariant-loop-place : goal.invariant-loop-place
invariant-loop-place l = record {
  count : length l.replay.objects.items ≡ length l.kinds;
  shows : IsLegal l.rows → ReplayOf l.replay l.kinds (take l.place l.rows);
}
