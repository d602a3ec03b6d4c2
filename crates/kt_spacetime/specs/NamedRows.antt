-- The numbers in rows by names.
use Rattle.std.specs.Prelude.{FitsSigned}
use Rattle.std.specs.Int.{w64}
use Rattle.kt_base.specs.Numbers.{IsProcNo}
use Rattle.kt_spacetime.specs.declared.names.InstName.{InstName}
use Rattle.kt_spacetime.specs.declared.named_rows.NamedCause.{NamedCause}
use Rattle.kt_spacetime.specs.declared.named_rows.NamedCause.TheVariants.{Busy, Down, NoSave}
use Rattle.kt_spacetime.specs.declared.named_rows.NamedEvent.{NamedEvent}
use Rattle.kt_spacetime.specs.declared.named_rows.NamedEvent.TheVariants.{Sent, Received, Dropped, Began, Took, Ready, Unwilling, Decided, Closed, Failed, Refused}
use Rattle.kt_spacetime.specs.Counts.{IsCount}

-- an initiator, and a count of those that it began
abbrev pub IsInstNameInRange : InstName → Type 0
IsInstNameInRange inst = IsProcNo inst.initiator × IsCount inst.count

-- the instance that a cause names is in range
abbrev pub IsNamedCauseInRange : NamedCause → Type 0
IsNamedCauseInRange (Busy inst) = IsInstNameInRange inst
IsNamedCauseInRange Down = Unit {0}
IsNamedCauseInRange NoSave = Unit {0}

-- every number of a row is in its range, a body within 64 bits
abbrev pub IsNamedInRange : NamedEvent → Type 0
IsNamedInRange (Sent to body label) = IsProcNo to × FitsSigned w64 body × IsCount label
IsNamedInRange (Received from label) = IsProcNo from × IsCount label
IsNamedInRange (Dropped from label) = IsProcNo from × IsCount label
IsNamedInRange (Began inst kind) = IsInstNameInRange inst
IsNamedInRange (Took inst) = IsInstNameInRange inst
IsNamedInRange (Ready inst) = IsInstNameInRange inst
IsNamedInRange (Unwilling inst cause) = IsInstNameInRange inst × IsNamedCauseInRange cause
IsNamedInRange (Decided inst commit) = IsInstNameInRange inst
IsNamedInRange (Closed inst) = IsInstNameInRange inst
IsNamedInRange Failed = Unit {0}
IsNamedInRange (Refused verb cause) = IsNamedCauseInRange cause
