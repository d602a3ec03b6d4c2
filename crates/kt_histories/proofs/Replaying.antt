-- Histories that are made row by row.
use Rattle.std.proofs.Common.{◌≡◌, ◌∙◌, List, length}
use Rattle.kt_spacetime.specs.declared.event.Event.{Event}
use Rattle.kt_meaning.proofs.LegalLogs.{rows_length}
use Rattle.kt_histories.specs.declared.histories.Histories.{Histories}
use Rattle.kt_histories.specs.HistoriesOf.{HistoriesOf}

-- as many messages are kept as there are rows
pub messages_kept : (h : Histories) (rows : List Event) → HistoriesOf h rows → length h.replay.messages.items ≡ length rows
messages_kept h rows of_rows = of_rows.shows.rows ∙ rows_length rows
