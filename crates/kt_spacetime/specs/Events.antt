-- The rows of a log.
use Rattle.std.specs.Prelude.{ℕ, FitsSigned}
use Rattle.std.specs.Int.{w64}
use Rattle.kt_base.specs.Numbers.{IsProcNo, IsMsgNo, IsInstNo}
use Rattle.kt_base.specs.declared.words.Cause.{Cause}
use Rattle.kt_base.specs.declared.words.Cause.TheVariants.{Busy, Down, NoSave}
use Rattle.kt_spacetime.specs.declared.event.Event.{Event}
use Rattle.kt_spacetime.specs.declared.event.Event.TheVariants.{Sent, Received, Dropped, Began, Took, Ready, Unwilling, Decided, Closed, Failed, Refused}

-- the process whose row it is
abbrev pub process_of : Event → ℕ
process_of (Sent p to body) = p
process_of (Received p from msg) = p
process_of (Dropped p from msg) = p
process_of (Began p inst kind) = p
process_of (Took p inst) = p
process_of (Ready p inst) = p
process_of (Unwilling p inst cause) = p
process_of (Decided p inst commit) = p
process_of (Closed p inst) = p
process_of (Failed p) = p
process_of (Refused p verb cause) = p

-- the instance that a cause names is in range
abbrev pub IsCauseInRange : Cause → Type 0
IsCauseInRange (Busy inst) = IsInstNo inst
IsCauseInRange Down = Unit {0}
IsCauseInRange NoSave = Unit {0}

-- every number of a row is in its range, a body within 64 bits
abbrev pub IsRowInRange : Event → Type 0
IsRowInRange (Sent p to body) = IsProcNo p × IsProcNo to × FitsSigned w64 body
IsRowInRange (Received p from msg) = IsProcNo p × IsProcNo from × IsMsgNo msg
IsRowInRange (Dropped p from msg) = IsProcNo p × IsProcNo from × IsMsgNo msg
IsRowInRange (Began p inst kind) = IsProcNo p × IsInstNo inst
IsRowInRange (Took p inst) = IsProcNo p × IsInstNo inst
IsRowInRange (Ready p inst) = IsProcNo p × IsInstNo inst
IsRowInRange (Unwilling p inst cause) = IsProcNo p × IsInstNo inst × IsCauseInRange cause
IsRowInRange (Decided p inst commit) = IsProcNo p × IsInstNo inst
IsRowInRange (Closed p inst) = IsProcNo p × IsInstNo inst
IsRowInRange (Failed p) = IsProcNo p
IsRowInRange (Refused p verb cause) = IsProcNo p × IsCauseInRange cause
