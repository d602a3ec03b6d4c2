-- How a fault of a merge is written.
use Rattle.std.specs.Prelude.{ℕ, List, ◌++◌, codes}
use Rattle.std.specs.Fmt.{decimal}
use Rattle.kt_merge.specs.PartFaultTexts.{part_fault_text}
use Rattle.kt_merge.specs.declared.fault.RowFault.{RowFault}
use Rattle.kt_merge.specs.declared.fault.RowFault.TheVariants as row
use Rattle.kt_merge.specs.declared.fault.MergeFault.{MergeFault}
use Rattle.kt_merge.specs.declared.fault.MergeFault.TheVariants as merge

-- what is wrong with a row
abbrev pub row_fault_words : RowFault → List ℕ
row_fault_words row.Name = codes "name"
row_fault_words row.NotSent = codes "not sent"
row_fault_words row.NotBegun = codes "not begun"
row_fault_words row.TooManyRows = codes "too many rows"
row_fault_words row.TooManyInstances = codes "too many instances"

-- why parts were not merged
abbrev pub merge_fault_text : MergeFault → List ℕ
merge_fault_text merge.Write = codes "write fault"
merge_fault_text merge.Memory = codes "memory"
merge_fault_text (merge.Part p fault) = codes "part " ++ decimal p ++ codes " " ++ part_fault_text fault
merge_fault_text (merge.Row p n fault) = codes "part " ++ decimal p ++ codes " record " ++ decimal n ++ codes ": " ++ row_fault_words fault
