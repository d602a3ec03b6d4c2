-- Which rows the records of a part say, and what is first wrong in them.
use Rattle.std.specs.Prelude.{◌≡◌, ◌≢◌, ◌≤◌, ◌<◌, ◌+◌, ◌^◌, ℕ, List, [], ◌∷◌, ◌++◌, length, map}
use Rattle.kt_text.specs.Writing.{text_of}
use Rattle.kt_merge.specs.declared.part_fault.PartFault.{PartFault}
use Rattle.kt_merge.specs.declared.part_fault.PartFault.TheVariants.{Read, TooLong, Fields, Word, Number, Clock, Process, Memory}
use Rattle.kt_merge.specs.declared.part_rows.FieldFault.{FieldFault}
use Rattle.kt_merge.specs.declared.part_rows.FieldFault.TheVariants as field
use Rattle.kt_spacetime.specs.declared.named_rows.ClockedRow.{ClockedRow}
use Rattle.kt_merge.specs.Spelling.{part_spelling, IsFormed, IsFieldFault}

-- how many fields a record has
abbrev pub part_width : ℕ
part_width = 6

-- how many records a part has at most: one more than a log has rows
abbrev pub max_records : ℕ
max_records = 2 ^ 24 + 1

-- a row that six fields can spell
abbrev pub IsSpellable : ClockedRow → Type 0
IsSpellable row = (row.clock < 2 ^ 64) × IsFormed row.row

-- rows of one process, whose clocks do not fall from this clock on
abbrev pub IsPartFrom : ℕ → ℕ → List ClockedRow → Type 0
IsPartFrom p clock [] = Unit {0}
IsPartFrom p clock (row ∷ rows) = IsSpellable row × (clock ≤ row.clock) × (row.row.p ≡ p) × IsPartFrom p row.clock rows

-- the clock after some rows
abbrev pub clock_after : ℕ → List ClockedRow → ℕ
clock_after clock [] = clock
clock_after clock (row ∷ rows) = clock_after row.clock rows

-- the records say these rows of this process
pub record IsPartText (p : ℕ) (text : List (List (List ℕ))) (rows : List ClockedRow) : Type 0 where
  pub spelled : text ≡ map part_spelling rows
  pub part : IsPartFrom p 0 rows
  pub few : length rows ≤ max_records

-- the text of a part's rows, and the line of one of them
abbrev pub part_text : List ClockedRow → List ℕ
part_text rows = text_of (map part_spelling rows)

abbrev pub row_line : ClockedRow → List ℕ
row_line row = part_text (row ∷ [])

-- the fault of a part whose record has a wrong field
abbrev pub fault_at_record : FieldFault → ℕ → PartFault
fault_at_record field.Word n = Word n
fault_at_record field.Number n = Number n

-- a record is the next one after so many
abbrev pub IsNext : ℕ → ℕ → Type 0
IsNext count n = (n ≡ count + 1) × (count < max_records)

-- the first record has six fields, of which one is wrong
pub record HasWrongField (left : List (List (List ℕ))) (fault : FieldFault) : Type 0 where
  pub time : List ℕ
  pub word : List ℕ
  pub first : List ℕ
  pub second : List ℕ
  pub third : List ℕ
  pub last : List ℕ
  pub rest : List (List (List ℕ))
  pub is : left ≡ (time ∷ word ∷ first ∷ second ∷ third ∷ last ∷ []) ∷ rest
  pub wrong : IsFieldFault time word first second third last fault

-- the first record says a row
pub record SaysRow (left : List (List (List ℕ))) (row : ClockedRow) : Type 0 where
  pub rest : List (List (List ℕ))
  pub is : left ≡ part_spelling row ∷ rest
  pub spellable : IsSpellable row

-- after this many rows of a process, the last of this clock, what is first wrong in the records that are left; nothing is
-- said of when a reader or memory fails
abbrev pub IsPartFaultFrom : ℕ → ℕ → ℕ → List (List (List ℕ)) → PartFault → Type 0
IsPartFaultFrom p count clock left Read = Unit {0}
IsPartFaultFrom p count clock left Memory = Unit {0}
IsPartFaultFrom p count clock left TooLong = (count ≡ max_records) × (fields : List (List ℕ)) × (rest : List (List (List ℕ))) × (left ≡ fields ∷ rest)
IsPartFaultFrom p count clock left (Fields n) = IsNext count n × (fields : List (List ℕ)) × (rest : List (List (List ℕ))) × (left ≡ fields ∷ rest) × (length fields ≢ 6)
IsPartFaultFrom p count clock left (Word n) = IsNext count n × HasWrongField left field.Word
IsPartFaultFrom p count clock left (Number n) = IsNext count n × HasWrongField left field.Number
IsPartFaultFrom p count clock left (Clock n) = IsNext count n × (row : ClockedRow) × SaysRow left row × (row.clock < clock)
IsPartFaultFrom p count clock left (Process n) = IsNext count n × (row : ClockedRow) × SaysRow left row × (clock ≤ row.clock) × (row.row.p ≢ p)

-- the records begin with these rows of a process, and these are left
pub record BeginsPart (p : ℕ) (text : List (List (List ℕ))) (rows : List ClockedRow) (left : List (List (List ℕ))) : Type 0 where
  pub spelled : text ≡ map part_spelling rows ++ left
  pub part : IsPartFrom p 0 rows
  pub few : length rows ≤ max_records

-- the first fault of a part's text: rows that are said, and then what is wrong
pub record IsFirstPartFault (p : ℕ) (text : List (List (List ℕ))) (fault : PartFault) : Type 0 where
  pub rows : List ClockedRow
  pub left : List (List (List ℕ))
  pub begins : BeginsPart p text rows left
  pub wrong : IsPartFaultFrom p (length rows) (clock_after 0 rows) left fault

-- a fault of the text itself: neither of its reader nor of memory
abbrev pub IsOfPartText : PartFault → Type 0
IsOfPartText fault = (fault ≢ Read) × (fault ≢ Memory)
