use Rattle.std.proofs.Common.{◌≡◌, ◌-◌, ℕ, List, Option}
use Rattle.kt_log_text.specs.Reading.{rows_unread}
use Rattle.kt_certify.proofs.Reading.{HasRead}
use Rattle.kt_certify.proofs.streaming.certify_unread.Given as goal

abbrev pub invariant-loop-row : goal.invariant-loop-row
invariant-loop-row g l = (source : Option (List ℕ)) → l.fn.rows ≡ rows_unread source → HasRead source l.rows l.pass

abbrev pub decreases-loop-row : goal.decreases-loop-row
decreases-loop-row g l = 16777217 - l.rows.count
