use Rattle.std.proofs.Common.{◌≡◌, take}
use Rattle.std.specs.List.{flat_map}
use Rattle.kt_text.specs.Writing.{Sends}
use Rattle.kt_report.specs.Lines.{chain_words, member_line}
use Rattle.kt_report.proofs.instances.write_members.Given as goal

abbrev pub invariant-loop-member : goal.invariant-loop-member
invariant-loop-member g l =
    (l.words.items ≡ chain_words l.names l.rows l.told)
    × Sends (g.W.Write.contents l.fn.writer) (g.W.Write.contents l.writer) l.fn.text.items l.text.items (flat_map (member_line l.names l.rows) (take l.member-index l.certificate.members))
