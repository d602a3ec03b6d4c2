use Rattle.std.proofs.Common.{take}
use Rattle.std.specs.List.{list_any}
use Rattle.kt_picture.specs.Evidence.{has_message}
use Rattle.kt_picture.specs.Links.{NotesMore}
use Rattle.kt_picture.proofs.rows.note_certificate.Given as goal

abbrev pub invariant-loop-member : goal.invariant-loop-member
invariant-loop-member l = NotesMore l.fn.noted l.noted l.certificate.inst (λ msg. list_any (λ m. has_message msg m.1) (take l.member-index l.member-items))
