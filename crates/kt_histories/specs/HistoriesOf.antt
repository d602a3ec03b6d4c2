-- When histories stand for rows.
use Rattle.std.specs.Prelude.{List}
use Rattle.kt_spacetime.specs.declared.event.Event.{Event}
use Rattle.kt_histories.specs.declared.histories.Histories.{Histories}
use Rattle.kt_histories.specs.Standing.{ReplayStandsFor}

-- the histories are those after these rows
abbrev pub HistoriesOf : Histories → List Event → Type 0
HistoriesOf h rows = ReplayStandsFor h.replay rows
