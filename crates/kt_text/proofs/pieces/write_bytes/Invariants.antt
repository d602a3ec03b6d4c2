-- What is left to write follows what was written.
use Rattle.std.proofs.Common.{[]}
use Rattle.kt_text.specs.Writing.{Sends}
use Rattle.kt_text.proofs.pieces.write_bytes.Given as goal

abbrev pub invariant-loop : goal.invariant-loop
invariant-loop g l = Sends (g.W.Write.contents l.fn.writer) (g.W.Write.contents l.writer) [] l.rest l.fn.bytes
