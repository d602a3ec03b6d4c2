-- How far a reader of rows is.
use Rattle.std.specs.Prelude.{◌≡◌, ◌≤◌, ◌<◌, ◌^◌, ◌⊎◌, ℕ, Bool, List, [], ◌∷◌, Option, Some, None, true, false, length}
use Rattle.csv.specs.declared.reader.Reader.{Reader}
use Rattle.kt_spacetime.specs.declared.event.Event.{Event}
use Rattle.kt_log_text.specs.declared.fault.LogFault.{LogFault}
use Rattle.kt_log_text.specs.declared.fault.LogFault.TheVariants.{Read, Version, Memory}
use Rattle.kt_log_text.specs.declared.reading.Progress.{Progress}
use Rattle.kt_log_text.specs.declared.reading.Progress.TheVariants.{Reading, Ended, Failed}
use Rattle.kt_log_text.specs.declared.rows.Format.{Format}
use Rattle.kt_log_text.specs.declared.rows.Format.TheVariants.{One, Two}
use Rattle.kt_log_text.specs.declared.reading.RowReader.TheInside.{Inside}
use Rattle.kt_text.specs.Capped.{capped_left}
use Rattle.kt_text.specs.Records.{left_in, ReadsOn}
use Rattle.kt_log_text.specs.Reading.{RowsRead, TakesRow, rows_unread}
use Rattle.kt_spacetime.specs.Events.{IsRowInRange}
use Rattle.kt_log_text.specs.Spelling.{max_rows, IsInFormat}
use Rattle.kt_log_text.specs.Texts.{header, IsTextFrom, IsUnmarked, IsOtherVersion, IsAfterRows}

-- the records that are left: those that the reader has, none at the end, unknown after a fault
abbrev pub left_at : {R : Type 0} → (R → Option (List ℕ)) → Reader R → Progress → Option (List (List (List ℕ)))
left_at remaining records Reading = left_in remaining records
left_at remaining records Ended = Some []
left_at remaining records (Failed fault) = None

-- the fault that stopped it
abbrev pub fault_at : Progress → Option LogFault
fault_at Reading = None
fault_at Ended = None
fault_at (Failed fault) = Some fault

-- whether it came to the end
abbrev pub has_ended : Progress → Bool
has_ended Reading = false
has_ended Ended = true
has_ended (Failed fault) = false

-- what callers see of a reader of rows
abbrev pub rows_read : {R : Type 0} → (R → Option (List ℕ)) → Inside R → RowsRead
rows_read remaining r = record {
  left = left_at (capped_left remaining) r.records.value r.progress;
  format = r.format;
  count = r.count;
  fault = fault_at r.progress;
  ended = has_ended r.progress;
}

-- while it reads, the reader of records can go on
abbrev pub IsReading : {R : Type 0} → Reader R → Progress → Type 0
IsReading records Reading = ReadsOn records
IsReading records Ended = Unit {0}
IsReading records (Failed fault) = Unit {0}

-- no more rows than the format allows; none before the format is known
abbrev pub IsRowCount : Option Format → ℕ → Type 0
IsRowCount None count = count ≡ 0
IsRowCount (Some format) count = count ≤ max_rows format

-- a reader of rows can go on; it has counted no more rows than its format allows, and no more than 2^24
abbrev pub IsSetUp : {R : Type 0} → Inside R → Type 0
IsSetUp r = IsReading r.records.value r.progress × IsRowCount r.format r.count × (r.count ≤ 2 ^ 24)

-- known records of which the first row has these fields
abbrev pub TakesFields : Option Format → Format → Option (List (List (List ℕ))) → Option (List (List (List ℕ))) → List (List ℕ) → Type 0
TakesFields known format None new fields = Unit {0}
TakesFields known format (Some left) None fields = ⊥
TakesFields known format (Some left) (Some rest) fields = IsTextFrom known format (fields ∷ rest) left

-- what a first record says of the format
abbrev pub IsFormatOf : Format → List (List ℕ) → Type 0
IsFormatOf One fields = IsUnmarked fields
IsFormatOf Two fields = fields ≡ header

-- a text whose first record is of another version
abbrev pub BeginsOtherVersion : List (List (List ℕ)) → Type 0
BeginsOtherVersion text = (fields : List (List ℕ)) × (rest : List (List (List ℕ))) × (text ≡ fields ∷ rest) × IsOtherVersion fields

-- what may go wrong before a row: the reader, memory, or the first record
abbrev pub IsHeadFault : List (List (List ℕ)) → LogFault → Type 0
IsHeadFault text fault = (fault ≡ Read) ⊎ ((fault ≡ Memory) ⊎ ((fault ≡ Version) × BeginsOtherVersion text))

-- what a reader has gathered of a text: rows that it begins with, and what comes after them
abbrev pub BeginsWithRows : Option (List (List (List ℕ))) → Option (List (List (List ℕ))) → Option Format → List Event → Type 0
BeginsWithRows None left format rows = Unit {0}
BeginsWithRows (Some text) None format rows = ⊥
BeginsWithRows (Some text) (Some left) format rows = IsAfterRows format rows left text

-- what is known while rows are gathered
pub record GathersRows (source : Option (List ℕ)) (r : RowsRead) (rows : List Event) : Type 0 where
  pub begins : BeginsWithRows (rows_unread source).left r.left r.format rows
  pub count : r.count ≡ length rows
  pub few : r.count ≤ 2 ^ 24
  pub going : (r.fault ≡ None) × (r.ended ≡ false)

-- a row was read: the next one
pub record ReadsRow (old new : Option Format) (count : ℕ) (before after : Option (List (List (List ℕ)))) (row : Event) : Type 0 where
  pub format : Format
  pub known : new ≡ Some format
  pub takes : TakesRow old format before after row
  pub in_range : IsRowInRange row
  pub in_format : IsInFormat format row
  pub few : count < max_rows format
