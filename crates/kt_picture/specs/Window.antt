-- What the window of a picture shows: the rows of a log after the first so many.
use Rattle.std.specs.Prelude.{ℕ, List, take, drop, map, fold}
use Rattle.std.specs.List.{range_with_len}
use Rattle.kt_spacetime.specs.declared.event.Event.{Event}
use Rattle.kt_picture.specs.declared.window.Shown.{Shown}
use Rattle.kt_picture.specs.declared.window.Stretch.{Stretch}
use Rattle.kt_picture.specs.declared.window.CutMark.{CutMark}
use Rattle.kt_picture.specs.KnownAtRow.{KnownAtRow, seen_before, seen_after, shown_rows, stretch_from, cut_rows}

-- what is known after so many rows of the window
abbrev pub seen_at : List Event → ℕ → ℕ → KnownAtRow
seen_at rows before count = fold seen_after (seen_before (take before rows)) (take count (drop before rows))

-- what is known at the window's end
abbrev pub seen_last : List Event → ℕ → KnownAtRow
seen_last rows before = fold seen_after (seen_before (take before rows)) (drop before rows)

-- what each row of the window shows
abbrev pub shown_of : List Event → ℕ → List Shown
shown_of rows before = shown_rows rows (seen_before (take before rows)) (drop before rows)

-- the permanent cut after each committed decision of the window
abbrev pub cuts_of : List Event → ℕ → List CutMark
cuts_of rows before = cut_rows (seen_before (take before rows)) (drop before rows)

-- how the lane of each process goes on to the right end
abbrev pub ends_of : List Event → ℕ → List Stretch
ends_of rows before = map (stretch_from (seen_last rows before)) (range_with_len 0 64)
