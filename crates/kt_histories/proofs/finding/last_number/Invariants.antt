use Rattle.kt_histories.specs.Finding.{is_sought}
use Rattle.kt_histories.proofs.LastRows.{IsLastBelow}
use Rattle.kt_histories.proofs.finding.last_number.Given as goal

abbrev pub invariant-loop-place : goal.invariant-loop-place
invariant-loop-place l = IsLastBelow (is_sought l.sought) l.rows l.place l.last
