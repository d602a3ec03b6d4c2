-- What callers see of a reader of rows.
use Rattle.std.specs.Prelude.{◌≡◌, ◌<◌, ◌+◌, ℕ, Bool, true, false, List, ◌∷◌, Option, Some, None, option_map, Result, Ok, Err, IfSome}
use Rattle.kt_spacetime.specs.declared.event.Event.{Event}
use Rattle.kt_log_text.specs.declared.fault.LogFault.{LogFault}
use Rattle.kt_log_text.specs.declared.rows.Format.{Format}
use Rattle.kt_spacetime.specs.Events.{IsRowInRange}
use Rattle.kt_log_text.specs.Spelling.{spelling, max_rows, IsInFormat}
use Rattle.kt_text.specs.Records.{text_records}
use Rattle.kt_log_text.specs.Texts.{row_width, IsTextFrom, IsEndedFrom, IsFaultFrom}

-- the records that are left, where the reader tells its bytes; the format, once it is known; how many rows it gave;
-- the fault that stopped it; whether it came to the end
pub record RowsRead : Type 0 where
  pub left : Option (List (List (List ℕ)))
  pub format : Option Format
  pub count : ℕ
  pub fault : Option LogFault
  pub ended : Bool

-- before the first record of these bytes
abbrev pub rows_unread : Option (List ℕ) → RowsRead
rows_unread bytes = record {
  left = option_map (text_records row_width) bytes;
  format = None;
  count = 0;
  fault = None;
  ended = false;
}

-- no record was read yet of some bytes
abbrev pub IsUnread : RowsRead → Type 0
IsUnread rows = (source : Option (List ℕ)) × (rows ≡ rows_unread source)

-- the next record says this row, where the records are known
abbrev pub TakesRow : Option Format → Format → Option (List (List (List ℕ))) → Option (List (List (List ℕ))) → Event → Type 0
TakesRow known format None rest row = Unit {0}
TakesRow known format (Some left) None row = ⊥
TakesRow known format (Some left) (Some rest) row = IsTextFrom known format (spelling row ∷ rest) left

-- a row was given: the next one of the text
pub record GivesRow (old new : RowsRead) (row : Event) : Type 0 where
  pub format : Format
  pub known : new.format ≡ Some format
  pub takes : TakesRow old.format format old.left new.left row
  pub in_range : IsRowInRange row
  pub in_format : IsInFormat format row
  pub few : old.count < max_rows format
  pub counted : new.count ≡ old.count + 1
  pub going : (old.fault ≡ None) × (new.fault ≡ None) × (new.ended ≡ false)

-- the end was met: no row is left
pub record MeetsEnd (old new : RowsRead) : Type 0 where
  pub ended : new.ended ≡ true
  pub still : (old.fault ≡ None) × (new.fault ≡ None) × (new.count ≡ old.count)
  pub nothing_left : old.ended ≡ false → IfSome old.left (IsEndedFrom old.format)

-- a fault was met: what is first wrong in what is left
pub record MeetsFault (old new : RowsRead) (fault : LogFault) : Type 0 where
  pub kept : new.fault ≡ Some fault
  pub still : new.count ≡ old.count
  pub first : old.fault ≡ None → IfSome old.left (λ left. IsFaultFrom old.format old.count left fault)

-- what one call gives
abbrev pub Steps : RowsRead → RowsRead → Result (Option Event) LogFault → Type 0
Steps old new (Ok (Some row)) = GivesRow old new row
Steps old new (Ok None) = MeetsEnd old new
Steps old new (Err fault) = MeetsFault old new fault
