-- What each row of the window shows.
use Rattle.std.specs.Prelude.{ℕ, ◌+◌, false, not, bytes_eq, if◌then◌else◌, None, is_some, List, [], ◌∷◌, ◌++◌, map, replicate, slice_index, slice_set}
use Rattle.std.specs.List.{range_with_len}
use Rattle.kt_spacetime.specs.declared.event.Event.{Event}
use Rattle.kt_spacetime.specs.declared.event.Event.TheVariants.{Took, Decided}
use Rattle.kt_spacetime.specs.Events.{process_of}
use Rattle.kt_meaning.specs.Past.{Past, past, after}
use Rattle.kt_picture.specs.declared.window.Shown.{Shown}
use Rattle.kt_picture.specs.declared.window.Stretch.{Stretch}
use Rattle.kt_picture.specs.declared.window.CutMark.{CutMark}
use Rattle.kt_picture.specs.Fates.{is_message_undone, is_receive_undone, is_sent_in_transit, joined_decision}

-- what is known at a row of the window: of all rows before it, how many of them the window has, and by process the
-- columns of its last row there, of its last `took` row, and of its permanent position; 0 is the left end
pub record KnownAtRow : Type 0 where
  pub past : Past
  pub column : ℕ
  pub latest : List ℕ
  pub taken : List ℕ
  pub places : List ℕ

-- what is known at the left end, after the rows before the window
abbrev pub seen_before : List Event → KnownAtRow
seen_before before = record { past = past before; column = 0; latest = replicate 64 0; taken = replicate 64 0; places = replicate 64 0 }

-- the column of each process's last `took` row after one more row, which follows this column
abbrev pub taken_after : ℕ → List ℕ → Event → List ℕ
taken_after column taken (Took p inst) = slice_set taken p (column + 1)
taken_after column taken _ = taken

-- the column of a process's permanent position after the commit of an instance: that of its `took` row, where it has one
abbrev pub place_after : Past → ℕ → List ℕ → List ℕ → ℕ → ℕ
place_after s inst taken places p = if is_some (s.new inst p) then slice_index taken p else slice_index places p

-- the column of each process's permanent position after one more row
abbrev pub places_after : Past → List ℕ → List ℕ → Event → List ℕ
places_after s taken places (Decided p inst commit) =
    if commit then map (place_after s inst taken places) (range_with_len 0 64) else places
places_after s taken places _ = places

-- the same after one more row
abbrev pub seen_after : KnownAtRow → Event → KnownAtRow
seen_after s row = record {
  past = after s.past row;
  column = s.column + 1;
  latest = slice_set s.latest (process_of row) (s.column + 1);
  taken = taken_after s.column s.taken row;
  places = places_after s.past s.taken s.places row;
}

-- the stretch of a process's lane from its last row on
abbrev pub stretch_from : KnownAtRow → ℕ → Stretch
stretch_from s p = record { since = slice_index s.latest p; up = s.past.up p; open_in = s.past.open_in p }

-- what a row shows, where this is known at it, but for what becomes of it
abbrev pub plain_at : KnownAtRow → Event → Shown
plain_at s row = record {
  row = s.past.rows + 1;
  column = s.column + 1;
  event = row;
  stretch = stretch_from s (process_of row);
  is_undone = false;
  is_taken_back = false;
  is_in_transit = false;
  decision = None;
}

-- what a row shows with what becomes of it by the end of these rows, where the window goes on with the rest
abbrev pub told_at : List Event → Shown → List Event → Shown
told_at upto v rest = record v {
  is_undone = is_message_undone upto v.row v.event;
  is_taken_back = is_receive_undone upto v.event rest;
  is_in_transit = is_sent_in_transit upto v.row v.event;
  decision = joined_decision upto v.event;
}

-- the same, where this is known at the row
abbrev pub shown_at : List Event → KnownAtRow → Event → List Event → Shown
shown_at upto s row rest = told_at upto (plain_at s row) rest

-- what the rows of a window show, one each
abbrev pub shown_rows : List Event → KnownAtRow → List Event → List Shown
shown_rows upto s [] = []
shown_rows upto s (row ∷ rest) = shown_at upto s row rest ∷ shown_rows upto (seen_after s row) rest

-- the permanent cut after a row that commits an instance, where permanent positions are in the first columns before it and in
-- the second ones after it; it is new where they differ
abbrev pub cut_in : List ℕ → List ℕ → Event → List CutMark
cut_in before places (Decided p inst commit) = if commit then record { inst = inst; columns = places; is_new = not (bytes_eq before places) } ∷ [] else []
cut_in before places _ = []

-- the permanent cuts after the committed decisions of a window
abbrev pub cut_rows : KnownAtRow → List Event → List CutMark
cut_rows s [] = []
cut_rows s (row ∷ rest) = cut_in s.places (seen_after s row).places row ++ cut_rows (seen_after s row) rest
