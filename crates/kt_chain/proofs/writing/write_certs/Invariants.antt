use Rattle.std.proofs.Common.{[], take}
use Rattle.kt_text.specs.Writing.{text_of, Sends}
use Rattle.kt_chain.specs.Spelling.{records_of}
use Rattle.kt_chain.proofs.writing.write_certs.Given as goal

abbrev pub invariant-loop-certificate : goal.invariant-loop-certificate
invariant-loop-certificate g l = Sends (g.W.Write.contents l.fn.writer) (g.W.Write.contents l.writer) [] l.text.items (text_of (records_of (take l.certificate-index l.certificates)))
