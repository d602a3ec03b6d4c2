use Rattle.kt_program.specs.Files.{AreTwo}
use Rattle.kt_program.proofs.Apart.{IsApartTo}
use Rattle.kt_program.proofs.files.is_twice.Given as goal

abbrev pub invariant-loop-place : goal.invariant-loop-place
invariant-loop-place l = IsApartTo AreTwo l.inputs l.outputs l.place
