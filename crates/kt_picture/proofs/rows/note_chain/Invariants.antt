use Rattle.std.proofs.Common.{take}
use Rattle.kt_picture.specs.Evidence.{has_message}
use Rattle.kt_picture.specs.Links.{NotesMore}
use Rattle.kt_picture.proofs.rows.note_chain.Given as goal

abbrev pub invariant-loop-msg : goal.invariant-loop-msg
invariant-loop-msg l = NotesMore l.fn.noted l.noted l.inst (λ msg. has_message msg (take l.msg-index l.chain))
