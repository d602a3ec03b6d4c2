-- One log of many parts.
use Rattle.std.specs.Prelude.{◌≡◌, ◌≢◌, ◌⊎◌, ◌<◌, ◌≤◌, ◌+◌, ◌==◌, ℕ, Option, Some, List, [], ◌∷◌, ◌++◌, length, map, filter, slice_get, All, AllPairs}
use Rattle.std.specs.Io.KnownBytes.{Appends}
use Rattle.kt_spacetime.specs.declared.event.Event.{Event}
use Rattle.kt_text.specs.Writing.{text_of, WritesFront}
use Rattle.kt_log_text.specs.Spelling.{spelling}
use Rattle.kt_log_text.specs.Texts.{header}
use Rattle.kt_spacetime.specs.declared.named_rows.NamedRow.{NamedRow}
use Rattle.kt_meaning.specs.Names.{nothing_given, given_by, named, numbered}
use Rattle.kt_spacetime.specs.declared.named_rows.ClockedRow.{ClockedRow}
use Rattle.kt_spacetime.specs.ClockedRows.{rows_of, without_clocks}
use Rattle.kt_merge.specs.Reading.{PartRead, IsPartUnread}
use Rattle.kt_merge.specs.Texts.{IsPartText, BeginsPart, SaysRow, IsPartFaultFrom, clock_after}
use Rattle.kt_merge.specs.declared.fault.MergeFault.{MergeFault}
use Rattle.kt_merge.specs.declared.fault.MergeFault.TheVariants as merge
use Rattle.kt_merge.specs.Heads.{IsNotLater}
use Rattle.kt_merge.specs.Numbering.{IsRowFault}

-- the records of a text
abbrev pub Records : Type 0
Records = List (List (List ℕ))

-- readers of the parts of processes 0, 1 and so on, of which none was read
abbrev pub ArePartsUnread : List PartRead → Type 0
ArePartsUnread parts = (p : ℕ) (part : PartRead) → slice_get parts p ≡ Some part → IsPartUnread part × (part.process ≡ p)

-- the part of a process, by its number, where its records are known
abbrev pub IsPartOf : List PartRead → ℕ → Records → Type 0
IsPartOf parts p text = (part : PartRead) × (slice_get parts p ≡ Some part) × (part.left ≡ Some text)

-- the records of each part are known
abbrev pub AreKnown : List PartRead → Type 0
AreKnown parts = (p : ℕ) → p < length parts → (text : Records) × IsPartOf parts p text

-- rows of these parts, sorted by clock and then by process
pub record AreSorted (parts : List PartRead) (rows : List ClockedRow) : Type 0 where
  pub of_parts : All (λ r. r.row.p < length parts) rows
  pub sorted : AllPairs IsNotLater rows

-- all rows of all parts: those of each process are its part, in order
pub record IsMergeOf (parts : List PartRead) (rows : List ClockedRow) : Type 0 where
  pub sorted : AreSorted parts rows
  pub whole : (p : ℕ) (text : Records) → IsPartOf parts p text → IsPartText p text (rows_of p rows)

-- the text of a log, in format 2
abbrev pub log_text : List Event → List ℕ
log_text log = text_of (header ∷ map spelling log)

-- what was written is the log of all rows of all parts
pub record WritesMerge (parts : List PartRead) (old new : Option (List ℕ)) : Type 0 where
  pub rows : List ClockedRow
  pub log : List Event
  pub merged : IsMergeOf parts rows
  pub numbers : numbered (without_clocks rows) ≡ Some log
  pub written : Appends old new (log_text log)

-- with names put back, each process's rows of the log that was written are those of its part, in order, without their clocks
pub record IsRowwise (parts : List PartRead) (old new : Option (List ℕ)) : Type 0 where
  pub log : List Event
  pub written : Appends old new (log_text log)
  pub rows : List NamedRow
  pub names : named log ≡ Some rows
  pub each : (p : ℕ) (text : Records) → IsPartOf parts p text
      → (own : List ClockedRow) × IsPartText p text own × (filter (λ r. r.p == p) rows ≡ without_clocks own)

-- what is left of a process's part, after its rows among these, begins with a record that says its next row
abbrev pub SaysNext : ℕ → List ClockedRow → Records → ClockedRow → Type 0
SaysNext p rows left row = SaysRow left row × (clock_after 0 (rows_of p rows) ≤ row.clock) × (row.row.p ≡ p)

-- it is at its end, or begins with such a record
abbrev pub GoesOn : ℕ → List ClockedRow → Records → Type 0
GoesOn p rows left = (left ≡ []) ⊎ ((row : ClockedRow) × SaysNext p rows left row)

-- the first rows of a merge, with their log: what is left of each part comes later
pub record BeginsMerge (parts : List PartRead) (rows : List ClockedRow) (log : List Event) : Type 0 where
  pub sorted : AreSorted parts rows
  pub begun : (p : ℕ) (text : Records) → IsPartOf parts p text → (left : Records) × BeginsPart p text (rows_of p rows) left
      × ((next : ClockedRow) → SaysNext p rows left next → All (λ r. IsNotLater r next) rows)
  pub numbers : numbered (without_clocks rows) ≡ Some log

-- what is left of a part after its rows among these
abbrev pub IsLeftOf : List PartRead → List ClockedRow → ℕ → Records → Type 0
IsLeftOf parts rows p left = (text : Records) × IsPartOf parts p text × BeginsPart p text (rows_of p rows) left

-- the row before it was the last one of this process; before the first row, the parts before it go on
abbrev pub ComesNext : List PartRead → List ClockedRow → ℕ → Type 0
ComesNext parts rows p =
    ((rows ≡ []) × ((q : ℕ) (left : Records) → q < p → IsLeftOf parts rows q left → GoesOn q rows left))
    ⊎ ((before : List ClockedRow) × (last : ClockedRow) × (rows ≡ before ++ last ∷ []) × (last.row.p ≡ p)
    × ((q : ℕ) (left : Records) → q ≢ p → IsLeftOf parts rows q left → GoesOn q rows left))

-- the first fault in merged order, after these rows
abbrev pub IsMergeFaultAfter : List PartRead → List ClockedRow → List Event → MergeFault → Type 0
IsMergeFaultAfter parts rows log merge.Write = Unit {0}
IsMergeFaultAfter parts rows log merge.Memory = Unit {0}
IsMergeFaultAfter parts rows log (merge.Part p fault) =
    (p < length parts) × ComesNext parts rows p
    × ((left : Records) → IsLeftOf parts rows p left → IsPartFaultFrom p (length (rows_of p rows)) (clock_after 0 (rows_of p rows)) left fault)
IsMergeFaultAfter parts rows log (merge.Row p n fault) =
    (p < length parts) × (n ≡ length (rows_of p rows) + 1) × (row : ClockedRow) × (row.row.p ≡ p)
    × ((left : Records) → IsLeftOf parts rows p left → SaysNext p rows left row)
    × ((q : ℕ) (left : Records) → IsLeftOf parts rows q left → (left ≡ []) ⊎ ((next : ClockedRow) × SaysNext q rows left next × IsNotLater row next))
    × IsRowFault (given_by nothing_given log) p row.row.event fault

-- a merge stops at its first fault: rows that are merged, and then what is wrong; what was written is a front part of the text
-- of their log
pub record StopsMerge (parts : List PartRead) (old new : Option (List ℕ)) (fault : MergeFault) : Type 0 where
  pub rows : List ClockedRow
  pub log : List Event
  pub begins : BeginsMerge parts rows log
  pub wrong : IsMergeFaultAfter parts rows log fault
  pub written : WritesFront old new (log_text log)

-- a part's fault is the one that its reader met
abbrev pub IsMetIn : List PartRead → MergeFault → Type 0
IsMetIn parts merge.Write = Unit {0}
IsMetIn parts merge.Memory = Unit {0}
IsMetIn parts (merge.Part p fault) = (part : PartRead) × (slice_get parts p ≡ Some part) × (part.fault ≡ Some fault)
IsMetIn parts (merge.Row p n fault) = Unit {0}

-- of each part no more was read than its rows among these, and the row that comes next
abbrev pub AreReadTo : List PartRead → List ClockedRow → Type 0
AreReadTo parts rows = (p : ℕ) (part : PartRead) → slice_get parts p ≡ Some part → part.count ≤ length (rows_of p rows) + 1

-- a merge stops at its first fault, and these are its parts then: nothing was read after the fault
abbrev pub StopsReading : List PartRead → List PartRead → Option (List ℕ) → Option (List ℕ) → MergeFault → Type 0
StopsReading parts left old new fault = (stops : StopsMerge parts old new fault) × AreReadTo left stops.rows
