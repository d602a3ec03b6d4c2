use Rattle.std.proofs.Common.{◌≡◌, ◌++◌, take}
use Rattle.kt_chain.specs.Spelling.{marked}
use Rattle.kt_chain.proofs.writing.push_marked.Given as goal

abbrev pub invariant-loop-msg : goal.invariant-loop-msg
invariant-loop-msg l = l.words.items ≡ l.fn.words.items ++ marked (take l.msg-index l.messages)
