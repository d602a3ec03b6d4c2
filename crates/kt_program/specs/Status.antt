-- Exit statuses.
use Rattle.std.specs.Prelude.{ℕ, Bool, true, false, Result, Ok, Err}
use Rattle.kt_program.specs.declared.ending.Done.{Done}
use Rattle.kt_program.specs.declared.ending.Done.TheVariants.{Judged, Played, Certified, Drawn, Merged, Shown}
use Rattle.kt_program.specs.declared.fault.Failure.{Failure}
use Rattle.kt_program.specs.declared.fault.ProgramFault.{ProgramFault}
use Rattle.kt_program.specs.Faults.{refusal_status}

-- 0 yes, 1 no
abbrev pub answer_status : Bool → ℕ
answer_status true = 0
answer_status false = 1

-- 0 but for a no, which is 1
abbrev pub done_status : Done → ℕ
done_status (Judged passed) = answer_status passed
done_status Played = 0
done_status Certified = 0
done_status Drawn = 0
done_status Merged = 0
done_status Shown = 0

-- 0 done or yes, 1 no, 2 refused input, 3 a read or write fault, 4 want of memory or a run that can't go on
abbrev pub status_of : Result Done ProgramFault → ℕ
status_of (Ok what) = done_status what
status_of (Err fault) = refusal_status fault

abbrev pub ended_status : Result Done Failure → ℕ
ended_status (Ok what) = done_status what
ended_status (Err failure) = refusal_status failure.fault
