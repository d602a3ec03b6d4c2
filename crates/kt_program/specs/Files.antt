-- Which files were opened, and which of them are one.
use Rattle.std.specs.Prelude.{◌≢◌, List, Option, Some, None}
use Rattle.kt_program.specs.declared.files.FileNumber.{FileNumber}
use Rattle.kt_program.specs.Names.{IsEachApart}

-- a regular file that was opened, where that is told
abbrev pub OpenedFile : Type 0
OpenedFile = Option FileNumber

-- two that are not told to be one regular file
abbrev pub AreTwo : OpenedFile → OpenedFile → Type 0
AreTwo (Some one) (Some other) = one ≢ other
AreTwo (Some one) None = Unit {0}
AreTwo None other = Unit {0}

-- no output is an input or another output, as far as that is told
abbrev pub AreOthers : List OpenedFile → List OpenedFile → Type 0
AreOthers inputs outputs = IsEachApart AreTwo inputs outputs
