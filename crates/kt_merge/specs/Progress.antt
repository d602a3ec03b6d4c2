-- How far a reader of a part is.
use Rattle.std.specs.Prelude.{◌≡◌, ◌≤◌, ℕ, Bool, List, [], Option, Some, None, true, false}
use Rattle.csv.specs.declared.reader.Reader.{Reader}
use Rattle.kt_text.specs.Capped.{capped_left}
use Rattle.kt_text.specs.Records.{left_in, ReadsOn}
use Rattle.csv.specs.Reading.{has_failed}
use Rattle.kt_merge.specs.declared.part_fault.PartFault.{PartFault}
use Rattle.kt_merge.specs.declared.part_fault.PartFault.TheVariants as part
use Rattle.kt_merge.specs.declared.reading.Progress.{Progress}
use Rattle.kt_merge.specs.declared.reading.Progress.TheVariants.{Reading, Ended, Failed}
use Rattle.kt_merge.specs.declared.reading.PartReader.TheInside.{Inside}
use Rattle.kt_merge.specs.Reading.{PartRead}
use Rattle.kt_merge.specs.Texts.{max_records}

-- the records that are left: those that the reader has, none at the end, unknown after a fault
abbrev pub part_left_at : {R : Type 0} → (R → Option (List ℕ)) → Reader R → Progress → Option (List (List (List ℕ)))
part_left_at remaining records Reading = left_in remaining records
part_left_at remaining records Ended = Some []
part_left_at remaining records (Failed fault) = None

-- the fault that stopped it
abbrev pub part_fault_at : Progress → Option PartFault
part_fault_at Reading = None
part_fault_at Ended = None
part_fault_at (Failed fault) = Some fault

-- whether it came to the end
abbrev pub part_has_ended : Progress → Bool
part_has_ended Reading = false
part_has_ended Ended = true
part_has_ended (Failed fault) = false

-- what callers see of a reader of a part
abbrev pub part_read : {R : Type 0} → (R → Option (List ℕ)) → Inside R → PartRead
part_read remaining r = record {
  left = part_left_at (capped_left remaining) r.records.value r.progress;
  process = r.process;
  count = r.count;
  clock = r.clock;
  fault = part_fault_at r.progress;
  ended = part_has_ended r.progress;
}

-- where a fault is of the reader or of memory, the reader of records has met it
abbrev pub IsMetBy : {R : Type 0} → Reader R → PartFault → Type 0
IsMetBy records part.Read = has_failed records ≡ true
IsMetBy records part.Memory = has_failed records ≡ true
IsMetBy records fault = Unit {0}

-- while it reads, the reader of records can go on; a fault that stopped it was met
abbrev pub IsReadingPart : {R : Type 0} → Reader R → Progress → Type 0
IsReadingPart records Reading = ReadsOn records
IsReadingPart records Ended = Unit {0}
IsReadingPart records (Failed fault) = IsMetBy records fault

-- a reader of a part can go on, and has counted no more records than there may be
abbrev pub IsPartSetUp : {R : Type 0} → Inside R → Type 0
IsPartSetUp r = IsReadingPart r.records.value r.progress × (r.count ≤ max_records)
