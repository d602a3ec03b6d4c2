use Rattle.std.proofs.Common.{◌≡◌, ◌-◌, ℕ, List, Option}
use Rattle.kt_log_text.specs.Reading.{rows_unread}
use Rattle.kt_draw.proofs.Streams.{HasDrawn}
use Rattle.kt_draw.proofs.drawing.draw_rows.Given as goal

abbrev pub invariant-loop-reading : goal.invariant-loop-reading
invariant-loop-reading g l = (source : Option (List ℕ)) → l.fn.rows ≡ rows_unread source → HasDrawn source l.rows l.reading l.span

abbrev pub decreases-loop-reading : goal.decreases-loop-reading
decreases-loop-reading g l = 16777217 - l.rows.count
