-- How a fault of a text of certificates is written.
use Rattle.std.specs.Prelude.{ℕ, List, ◌++◌, codes}
use Rattle.std.specs.Fmt.{decimal}
use Rattle.kt_chain.specs.declared.fault.CertTextFault.{CertTextFault}
use Rattle.kt_chain.specs.declared.fault.CertTextFault.TheVariants as cert

-- the number of a record, and what is wrong in it
abbrev pub record_fault_text : ℕ → List ℕ → List ℕ
record_fault_text number words = codes "certificate record " ++ decimal number ++ words

-- why a text of certificates was refused
abbrev pub certificate_fault_text : CertTextFault → List ℕ
certificate_fault_text cert.Read = codes "read fault"
certificate_fault_text cert.TooLong = codes "certificate too long"
certificate_fault_text (cert.Fields number) = record_fault_text number (codes ": fields")
certificate_fault_text (cert.Word number) = record_fault_text number (codes ": word")
certificate_fault_text (cert.Number number) = record_fault_text number (codes ": number")
certificate_fault_text (cert.Place number) = record_fault_text number (codes ": place")
certificate_fault_text cert.Memory = codes "memory"
