use Rattle.std.proofs.Common.{[]}
use Rattle.kt_program.specs.Names.{ReadOnce}
use Rattle.kt_program.proofs.Apart.{IsApartTo}
use Rattle.kt_program.proofs.names.is_read_twice.Given as goal

abbrev pub invariant-loop-place : goal.invariant-loop-place
invariant-loop-place l = IsApartTo ReadOnce [] l.inputs l.place
