use Rattle.std.proofs.Common.{◌≡◌, ◌∷◌, map, take}
use Rattle.kt_text.specs.Writing.{text_of, Sends}
use Rattle.kt_chain.specs.Spelling.{instance_record, member_record, marked}
use Rattle.kt_chain.proofs.writing.write_certificate.Given as goal

abbrev pub invariant-loop-member : goal.invariant-loop-member
invariant-loop-member g l =
    (l.words.items ≡ marked l.told)
    × Sends (g.W.Write.contents l.fn.writer) (g.W.Write.contents l.writer) l.fn.text.items l.text.items (text_of (instance_record l.certificate ∷ map (member_record l.certificate.inst) (take l.member-index l.certificate.members)))
