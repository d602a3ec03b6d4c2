-- What is made of the parts of processes 0, 1 and so on, which are bytes in memory.
use Rattle.std.specs.Prelude.{◌≡◌, ℕ, Option, Some, List, [], length, slice_get}
use Rattle.kt_merge.specs.Merging.{StopsMerge, WritesMerge}
use Rattle.kt_merge.specs.declared.fault.MergeFault.{MergeFault}
use Rattle.kt_merge.specs.declared.fault.MergeFault.TheVariants as merge
use Rattle.kt_merge.specs.Reading.{PartRead, part_unread}

-- a reader of the text at this place, of which nothing was read
abbrev pub IsReaderOf : List (List ℕ) → ℕ → PartRead → Type 0
IsReaderOf texts p part = (text : List ℕ) × (slice_get texts p ≡ Some text) × (part ≡ part_unread p (Some text))

-- readers of these texts, each of the part of the process that its place says
pub record AreReaders (texts : List (List ℕ)) (parts : List PartRead) : Type 0 where
  pub count : length parts ≡ length texts
  pub each : (p : ℕ) (part : PartRead) → slice_get parts p ≡ Some part → IsReaderOf texts p part

-- a text is that of the log of all rows that these parts say
pub record IsTextOfParts (texts : List (List ℕ)) (made : List ℕ) : Type 0 where
  pub parts : List PartRead
  pub readers : AreReaders texts parts
  pub merged : WritesMerge parts (Some []) (Some made)

-- the first fault of the parts that these texts are, in the order of their log
pub record StopsParts (texts : List (List ℕ)) (fault : MergeFault) : Type 0 where
  pub parts : List PartRead
  pub readers : AreReaders texts parts
  pub written : Option (List ℕ)
  pub stops : StopsMerge parts (Some []) written fault

-- why these parts have no log: their first fault; nothing is said of want of memory
abbrev pub IsUnmerged : List (List ℕ) → MergeFault → Type 0
IsUnmerged texts merge.Memory = Unit {0}
IsUnmerged texts merge.Write = Unit {0}
IsUnmerged texts fault = StopsParts texts fault
