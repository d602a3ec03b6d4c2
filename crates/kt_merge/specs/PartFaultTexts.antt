-- How a fault of a part's text is written.
use Rattle.std.specs.Prelude.{ℕ, List, ◌++◌, codes}
use Rattle.std.specs.Fmt.{decimal}
use Rattle.kt_merge.specs.declared.part_fault.PartFault.{PartFault}
use Rattle.kt_merge.specs.declared.part_fault.PartFault.TheVariants as part

-- the number of a record, and what is wrong in it
abbrev pub record_fault_text : ℕ → List ℕ → List ℕ
record_fault_text number words = codes "record " ++ decimal number ++ words

-- why a part's text was refused
abbrev pub part_fault_text : PartFault → List ℕ
part_fault_text part.Read = codes "read fault"
part_fault_text part.TooLong = codes "too many rows"
part_fault_text (part.Fields n) = record_fault_text n (codes ": fields")
part_fault_text (part.Word n) = record_fault_text n (codes ": word")
part_fault_text (part.Number n) = record_fault_text n (codes ": number")
part_fault_text (part.Clock n) = record_fault_text n (codes ": clock")
part_fault_text (part.Process n) = record_fault_text n (codes ": process")
part_fault_text part.Memory = codes "memory"
