-- Which rows the records of a text say, and what is first wrong in them.
use Rattle.std.specs.Prelude.{◌≡◌, ◌≢◌, ◌≤◌, ◌<◌, ◌+◌, ℕ, List, [], ◌∷◌, ◌++◌, length, map, All, codes, Option, Some, None}
use Rattle.kt_spacetime.specs.declared.event.Event.{Event}
use Rattle.kt_log_text.specs.declared.fault.LogFault.{LogFault}
use Rattle.kt_log_text.specs.declared.fault.LogFault.TheVariants.{Read, TooLong, Version, Fields, Word, Number, Memory}
use Rattle.kt_log_text.specs.declared.rows.Format.{Format}
use Rattle.kt_log_text.specs.declared.rows.Format.TheVariants.{One, Two}
use Rattle.kt_log_text.specs.declared.rows.RowFault.{RowFault}
use Rattle.kt_log_text.specs.declared.rows.RowFault.TheVariants as row
use Rattle.kt_spacetime.specs.Events.{IsRowInRange}
use Rattle.kt_log_text.specs.Spelling.{spelling, max_rows, IsInFormat, IsRowFieldFault}

-- how many fields a row has
abbrev pub row_width : ℕ
row_width = 4

-- the record that a text of format 2 begins with
abbrev pub header : List (List ℕ)
header = codes "kt" ∷ codes "2" ∷ codes "-" ∷ codes "-" ∷ []

-- a record whose first field is not `kt`
abbrev pub IsUnmarked : List (List ℕ) → Type 0
IsUnmarked [] = Unit {0}
IsUnmarked (word ∷ fields) = word ≢ codes "kt"

-- a record whose first field is `kt`
abbrev pub IsFormatRecord : List (List ℕ) → Type 0
IsFormatRecord fields = (rest : List (List ℕ)) × (fields ≡ codes "kt" ∷ rest)

-- a text that has no record, or whose first one is not marked
abbrev pub BeginsUnmarked : List (List (List ℕ)) → Type 0
BeginsUnmarked [] = Unit {0}
BeginsUnmarked (fields ∷ rest) = IsUnmarked fields

-- the records of a text, and among them those of its rows: all in format 1, all but the header in format 2
abbrev pub IsTextOf : Format → List (List (List ℕ)) → List (List (List ℕ)) → Type 0
IsTextOf One rows text = (text ≡ rows) × BeginsUnmarked text
IsTextOf Two rows text = text ≡ header ∷ rows

-- the same, from the first record on where the format is not known yet, else from a row on
abbrev pub IsTextFrom : Option Format → Format → List (List (List ℕ)) → List (List (List ℕ)) → Type 0
IsTextFrom None format rows text = IsTextOf format rows text
IsTextFrom (Some known) format rows text = (known ≡ format) × (text ≡ rows)

-- a first record that is marked, and is not the header
abbrev pub IsOtherVersion : List (List ℕ) → Type 0
IsOtherVersion fields = IsFormatRecord fields × (fields ≢ header)

-- every row's numbers are in range, by their types and by the format
pub record AreInFormat (format : Format) (rows : List Event) : Type 0 where
  pub in_range : All IsRowInRange rows
  pub in_format : All (IsInFormat format) rows

-- the records say these rows
pub record IsLogText (text : List (List (List ℕ))) (rows : List Event) : Type 0 where
  pub format : Format
  pub spelled : IsTextOf format (map spelling rows) text
  pub numbers : AreInFormat format rows
  pub few : length rows ≤ max_rows format

-- the fault of a log whose row has a wrong field
abbrev pub fault_at_row : RowFault → ℕ → LogFault
fault_at_row row.Word n = Word n
fault_at_row row.Number n = Number n

-- after this many rows, what is first wrong in the records that are left
abbrev pub IsRowFault : Format → ℕ → List (List (List ℕ)) → LogFault → Type 0
IsRowFault format count left Read = ⊥
IsRowFault format count left Memory = ⊥
IsRowFault format count left Version = ⊥
IsRowFault format count left TooLong = (count ≡ max_rows format) × (fields : List (List ℕ)) × (rest : List (List (List ℕ))) × (left ≡ fields ∷ rest)
IsRowFault format count left (Fields n) =
    (n ≡ count + 1) × (count < max_rows format) × (fields : List (List ℕ)) × (rest : List (List (List ℕ))) × (left ≡ fields ∷ rest) × (length fields ≢ 4)
IsRowFault format count left (Word n) =
    (n ≡ count + 1) × (count < max_rows format) × (w a b c : List ℕ) × (rest : List (List (List ℕ))) × (left ≡ (w ∷ a ∷ b ∷ c ∷ []) ∷ rest) × IsRowFieldFault format w a b c row.Word
IsRowFault format count left (Number n) =
    (n ≡ count + 1) × (count < max_rows format) × (w a b c : List ℕ) × (rest : List (List (List ℕ))) × (left ≡ (w ∷ a ∷ b ∷ c ∷ []) ∷ rest) × IsRowFieldFault format w a b c row.Number

-- after this many rows, what is first wrong from here on; nothing is said of when a reader or memory fails
abbrev pub IsFaultFrom : Option Format → ℕ → List (List (List ℕ)) → LogFault → Type 0
IsFaultFrom known count text Read = Unit {0}
IsFaultFrom known count text Memory = Unit {0}
IsFaultFrom known count text Version = (known ≡ None) × (fields : List (List ℕ)) × (rest : List (List (List ℕ))) × (text ≡ fields ∷ rest) × IsOtherVersion fields
IsFaultFrom known count text fault = (format : Format) × (left : List (List (List ℕ))) × IsTextFrom known format left text × IsRowFault format count left fault

-- a text begins with these rows, and this is left: all of it before the first row
abbrev pub IsAfterRows : Option Format → List Event → List (List (List ℕ)) → List (List (List ℕ)) → Type 0
IsAfterRows None rows left text = (rows ≡ []) × (left ≡ text)
IsAfterRows (Some format) rows left text = IsTextOf format (map spelling rows ++ left) text × AreInFormat format rows × (length rows ≤ max_rows format)

-- no row is left
abbrev pub IsEndedFrom : Option Format → List (List (List ℕ)) → Type 0
IsEndedFrom known text = (format : Format) × IsTextFrom known format [] text

-- the first fault of a text: rows that are said, and then what is wrong
pub record IsFirstLogFault (text : List (List (List ℕ))) (fault : LogFault) : Type 0 where
  pub format : Option Format
  pub rows : List Event
  pub left : List (List (List ℕ))
  pub after_rows : IsAfterRows format rows left text
  pub wrong : IsFaultFrom format (length rows) left fault

-- a fault of the text itself: neither of its reader nor of memory
abbrev pub IsOfLogText : LogFault → Type 0
IsOfLogText fault = (fault ≢ Read) × (fault ≢ Memory)
