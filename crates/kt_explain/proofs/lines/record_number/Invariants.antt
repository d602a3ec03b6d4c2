use Rattle.std.proofs.Common.{◌≡◌, length, take}
use Rattle.kt_chain.specs.Spelling.{records_of}
use Rattle.kt_explain.proofs.lines.record_number.Given as goal

abbrev pub invariant-loop-before : goal.invariant-loop-before
invariant-loop-before l = l.number ≡ length (records_of (take l.before l.certificates))
