use Rattle.std.proofs.Common.{take}
use Rattle.kt_checker.specs.Judged.{JudgeOf}
use Rattle.kt_checker.proofs.checking.judge_rows.Given as goal

abbrev pub invariant-loop-row : goal.invariant-loop-row
invariant-loop-row l = JudgeOf l.judge l.fn.certificates (take l.row-index l.row-items)
