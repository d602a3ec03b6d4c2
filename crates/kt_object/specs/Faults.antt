-- Why an act is not done.
use Rattle.kt_object.specs.declared.faults.RestoreFault.{RestoreFault}
use Rattle.kt_object.specs.declared.faults.RestoreFault.TheVariants as restore
use Rattle.kt_object.specs.declared.held_faults.ActFault.{ActFault}
use Rattle.kt_object.specs.declared.held_faults.ActFault.TheVariants.{Form, Memory}

-- the fault of an act that a fault of its restore is
abbrev pub of_restore : RestoreFault → ActFault
of_restore restore.Form = Form
of_restore restore.Memory = Memory
