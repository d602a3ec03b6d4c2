-- Files that are read.
use Rattle.kt_log_text.specs.declared.fault.LogFault.TheVariants as log
use Rattle.kt_chain.specs.declared.fault.CertTextFault.TheVariants as cert
use Rattle.kt_merge.specs.declared.part_fault.PartFault.TheVariants as part
use Rattle.kt_merge.specs.declared.fault.MergeFault.TheVariants as merge
use Rattle.kt_program.specs.declared.fault.AppFault.TheVariants as app
use Rattle.kt_program.specs.declared.fault.ProgramFault.{ProgramFault}
use Rattle.kt_program.specs.declared.fault.ProgramFault.TheVariants as program
use Rattle.kt_program.specs.declared.sources.Role.{Role}
use Rattle.kt_program.specs.declared.sources.Role.TheVariants.{Scenario, Steps, Log, Certificates, Part}

-- the fault of a file that is not opened, by what it tells
abbrev pub unread : Role → ProgramFault
unread Scenario = program.Read
unread Steps = program.Read
unread Log = program.App (app.Log log.Read)
unread Certificates = program.App (app.Cert cert.Read)
unread (Part p) = program.App (app.Merge (merge.Part p part.Read))
