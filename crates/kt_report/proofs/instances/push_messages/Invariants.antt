use Rattle.std.proofs.Common.{◌≡◌, ◌++◌, take}
use Rattle.kt_report.specs.Lines.{chain_words}
use Rattle.kt_report.proofs.instances.push_messages.Given as goal

abbrev pub invariant-loop-msg : goal.invariant-loop-msg
invariant-loop-msg l = l.words.items ≡ l.fn.words.items ++ chain_words l.names l.rows (take l.msg-index l.messages)
