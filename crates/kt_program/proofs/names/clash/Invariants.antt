use Rattle.kt_program.specs.Names.{Apart}
use Rattle.kt_program.proofs.Apart.{IsApartTo}
use Rattle.kt_program.proofs.names.clash.Given as goal

abbrev pub invariant-loop-place : goal.invariant-loop-place
invariant-loop-place l = IsApartTo Apart l.inputs l.outputs l.place
