-- How a fault of a log's text is written.
use Rattle.std.specs.Prelude.{ℕ, List, ◌++◌, codes}
use Rattle.std.specs.Fmt.{decimal}
use Rattle.kt_log_text.specs.declared.fault.LogFault.{LogFault}
use Rattle.kt_log_text.specs.declared.fault.LogFault.TheVariants as log

-- the number of a row, and what is wrong in it
abbrev pub row_fault_text : ℕ → List ℕ → List ℕ
row_fault_text number words = codes "log row " ++ decimal number ++ words

-- why a log's text was refused
abbrev pub log_fault_text : LogFault → List ℕ
log_fault_text log.Read = codes "read fault"
log_fault_text log.TooLong = codes "log too long"
log_fault_text log.Version = codes "log version"
log_fault_text (log.Fields row) = row_fault_text row (codes ": fields")
log_fault_text (log.Word row) = row_fault_text row (codes ": word")
log_fault_text (log.Number row) = row_fault_text row (codes ": number")
log_fault_text log.Memory = codes "memory"
