use Rattle.std.proofs.Common.{◌≡◌, ◌-◌, ℕ, List, Option}
use Rattle.kt_log_text.specs.Reading.{rows_unread}
use Rattle.kt_log_text.specs.Progress.{GathersRows}
use Rattle.kt_log_text.proofs.reading.read_rows.Given as goal

abbrev pub invariant-loop-log : goal.invariant-loop-log
invariant-loop-log g l = (source : Option (List ℕ)) → l.fn.rows ≡ rows_unread source → GathersRows source l.rows l.log.rows

abbrev pub decreases-loop-log : goal.decreases-loop-log
decreases-loop-log g l = 16777217 - l.rows.count
