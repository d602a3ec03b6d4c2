-- What the program makes of parts that are to be merged.
use Rattle.std.specs.Prelude.{◌≡◌, ◌≢◌, ◌⊎◌, ◌<◌, ℕ, List, [], length, Some, Result, Ok, Err}
use Rattle.std.specs.List.{slice_get}
use Rattle.std.specs.Io.KnownBytes.{Appends}
use Rattle.kt_merge.specs.declared.part_fault.PartFault.TheVariants as part
use Rattle.kt_merge.specs.Reading.{PartRead, part_unread}
use Rattle.kt_merge.specs.declared.fault.MergeFault.{MergeFault}
use Rattle.kt_merge.specs.declared.fault.MergeFault.TheVariants as merge
use Rattle.kt_merge.specs.Merging.{StopsMerge, WritesMerge}
use Rattle.kt_program.specs.declared.ending.Done.{Done}
use Rattle.kt_program.specs.declared.fault.AppFault.{AppFault}
use Rattle.kt_program.specs.declared.fault.AppFault.TheVariants as app
use Rattle.kt_program.specs.declared.fault.Failure.{Failure}
use Rattle.kt_program.specs.declared.fault.ProgramFault.{ProgramFault}
use Rattle.kt_program.specs.declared.fault.ProgramFault.TheVariants as program
use Rattle.kt_program.specs.declared.line.Merging.{Merging}
use Rattle.kt_program.specs.declared.sources.Role.TheVariants.{Part}
use Rattle.kt_program.specs.Outputs.{IsOfWhole, TextGoesTo}
use Rattle.kt_program.specs.Sources.{unread}
use Rattle.kt_program.specs.Stored.{BytesTold}

-- a fault of parts, as the program answers it
abbrev pub of_merge : MergeFault → AppFault
of_merge merge.Write = app.Memory
of_merge merge.Memory = app.Memory
of_merge (merge.Part p part.Memory) = app.Memory
of_merge fault = app.Merge fault

-- each part is what a file says
abbrev pub AreReadFrom : {F : Type 0} → (F → BytesTold) → List PartRead → Type 0
AreReadFrom {F} told parts = (p : ℕ) (part : PartRead) → slice_get parts p ≡ Some part → (file : F) × (part ≡ part_unread p (told file))

-- a text is that of the log of all rows of these parts
abbrev pub IsMergedText : List PartRead → List ℕ → Type 0
IsMergedText parts text = WritesMerge parts (Some []) (Some text)

-- the log of parts that files say, as many as are named, goes where it is asked for
abbrev pub MergesTo : {F : Type 0} → (F → BytesTold) → Merging → BytesTold → BytesTold → Type 0
MergesTo told asked old new =
    (parts : List PartRead) × AreReadFrom told parts × (length parts ≡ length asked.parts.items)
    × (text : List ℕ) × IsMergedText parts text × TextGoesTo asked.log text old new

-- standard output has the log of some parts, or nothing new where it goes into a file
abbrev pub LeavesLog : BytesTold → BytesTold → Type 0
LeavesLog old new = (new ≡ old) ⊎ ((parts : List PartRead) × (text : List ℕ) × IsMergedText parts text × Appends old new text)

-- the same; at a fault nothing new, unless the writer failed
abbrev pub LeavesMerge : Result Done Failure → BytesTold → BytesTold → Type 0
LeavesMerge (Ok what) old new = LeavesLog old new
LeavesMerge (Err failure) old new = failure.fault ≢ program.App app.Write → new ≡ old

-- the file of one of so many parts is not opened
abbrev pub IsUnopened : ℕ → ProgramFault → Type 0
IsUnopened count fault = (p : ℕ) × (p < count) × (fault ≡ unread (Part p))

-- the merge of these parts stops, and this is answered
abbrev pub IsStopOf : List PartRead → AppFault → Type 0
IsStopOf parts fault = (why : MergeFault) × (old new : BytesTold) × StopsMerge parts old new why × (fault ≡ of_merge why)

-- a fault of merging: of the file that is written or of memory; or a part is not opened; or the merge stops of parts that files say, as
-- many as are named
abbrev pub IsOfMerging : {F : Type 0} → (F → BytesTold) → Merging → ProgramFault → Type 0
IsOfMerging told asked fault = IsOfWhole fault ⊎ (IsUnopened (length asked.parts.items) fault
    ⊎ ((parts : List PartRead) × AreReadFrom told parts × (length parts ≡ length asked.parts.items)
    × (why : AppFault) × IsStopOf parts why × (fault ≡ program.App why)))
