use Rattle.std.proofs.Common.{◌≡◌, ◌-◌, ℕ, List, Option}
use Rattle.kt_log_text.specs.Reading.{rows_unread}
use Rattle.worked_runs.proofs.Feeding.{HasFed}
use Rattle.worked_runs.proofs.judging.feed_all.Given as goal

abbrev pub invariant-loop-row : goal.invariant-loop-row
invariant-loop-row g l = (text : Option (List ℕ)) → l.fn.rows ≡ rows_unread text → HasFed text l.rows l.walk

abbrev pub decreases-loop-row : goal.decreases-loop-row
decreases-loop-row g l = 16777217 - l.rows.count
