-- What the words of a command line lead to.
use Rattle.std.specs.Prelude.{◌≡◌, ◌≢◌, ◌⊎◌, List, Result, Ok, Err}
use Rattle.clap.specs.Words.{Text, kind_of, subcommand_of}
use Rattle.clap.specs.declared.error.Error.{Error}
use Rattle.clap.specs.declared.error.kind.ErrorKind.{ErrorKind}
use Rattle.clap.specs.declared.error.kind.ErrorKind.TheVariants.{OutOfMemory, DisplayHelp, DisplayVersion}
use Rattle.kt_program.specs.declared.ask.AskFault.{AskFault}
use Rattle.kt_program.specs.declared.ask.AskFault.TheVariants as ask
use Rattle.kt_program.specs.declared.ending.Done.{Done}
use Rattle.kt_program.specs.declared.ending.Done.TheVariants.{Judged, Played, Certified, Drawn, Merged, Shown}
use Rattle.kt_program.specs.declared.fault.Failure.{Failure}
use Rattle.kt_program.specs.declared.fault.ProgramFault.{ProgramFault}
use Rattle.kt_program.specs.declared.fault.ProgramFault.TheVariants as program
use Rattle.kt_program.specs.declared.line.Asked.{Asked}
use Rattle.kt_program.specs.declared.line.Asked.TheVariants.{Certify, Check, Draw, Judge, Live, Merge, Play, Run}
use Rattle.kt_program.specs.Names.{IsApart, IsNamed}
use Rattle.kt_program.specs.Program.{IsErrorFor, NamesAsked, program as definition}

-- words that name something to do, and an output by the name of an input or of another output
abbrev pub NameTwice : List Text → Type 0
NameTwice words = (asked : Asked) × NamesAsked (subcommand_of definition words) asked × ¬ IsApart asked

-- why nothing is asked for: an error that clap's definition gives for the words, such a name, or no memory
abbrev pub IsUnasked : List Text → AskFault → Type 0
IsUnasked words (ask.Line e) = IsErrorFor words e
IsUnasked words (ask.SameName name) = NameTwice words
IsUnasked words ask.Memory = Unit {0}

-- clap answers a request for help or for the version by such an error
abbrev pub IsRequest : ErrorKind → Type 0
IsRequest kind = (kind ≡ DisplayHelp) ⊎ (kind ≡ DisplayVersion)

-- any other error but want of memory is a mistake of the words
abbrev pub IsMistake : ErrorKind → Type 0
IsMistake kind = (kind ≢ OutOfMemory) × (kind ≢ DisplayHelp) × (kind ≢ DisplayVersion)

-- words that clap's definition answers by an error of such a kind
abbrev pub AreAnswered : List Text → (ErrorKind → Type 0) → Type 0
AreAnswered words P = (e : Error) × IsErrorFor words e × P (kind_of e)

-- whether a scenario is to be run
abbrev pub IsOfRun : Asked → Type 0
IsOfRun (Play scenario steps log cert) = Unit {0}
IsOfRun (Live scenario log cert) = Unit {0}
IsOfRun (Run run) = Unit {0}
IsOfRun _ = ⊥

-- whether steps are to be read
abbrev pub IsOfSteps : Asked → Type 0
IsOfSteps (Play scenario steps log cert) = IsNamed steps
IsOfSteps (Run run) = IsNamed run.steps
IsOfSteps _ = ⊥

-- whether a stored log is to be judged
abbrev pub IsCheck : Asked → Type 0
IsCheck (Check log cert) = Unit {0}
IsCheck (Judge asked) = Unit {0}
IsCheck _ = ⊥

-- whether a stored log is to be certified
abbrev pub IsCertify : Asked → Type 0
IsCertify (Certify log cert) = Unit {0}
IsCertify _ = ⊥

-- whether a stored log is to be drawn
abbrev pub IsDraw : Asked → Type 0
IsDraw (Draw asked) = Unit {0}
IsDraw _ = ⊥

-- whether parts are to be merged
abbrev pub IsMerge : Asked → Type 0
IsMerge (Merge asked) = Unit {0}
IsMerge _ = ⊥

-- whether a scenario is to be read: to be run, or for the names of its objects
abbrev pub IsOfScenario : Asked → Type 0
IsOfScenario (Draw asked) = IsNamed asked.names
IsOfScenario asked = IsOfRun asked

-- words that name something to do of such a sort, and no output by the name of an input or of another output
abbrev pub Ask : List Text → (Asked → Type 0) → Type 0
Ask words P = (asked : Asked) × NamesAsked (subcommand_of definition words) asked × IsApart asked × P asked

-- what is done for words: a scenario run, a run judged, a log certified or drawn or parts merged where they name that; help shown where they
-- ask for it; they are refused where they are a mistake or name a file twice, as one file under two names where a file is to
-- be written, and a scenario or steps where they name them; other faults come with any words
abbrev pub DoneFor : List Text → Done → Type 0
DoneFor words (Judged passed) = Ask words IsCheck
DoneFor words Played = Ask words IsOfRun
DoneFor words Certified = Ask words IsCertify
DoneFor words Drawn = Ask words IsDraw
DoneFor words Merged = Ask words IsMerge
DoneFor words Shown = AreAnswered words IsRequest

-- what is refused for words
abbrev pub RefusedFor : List Text → ProgramFault → Type 0
RefusedFor words program.Line = AreAnswered words IsMistake ⊎ NameTwice words
RefusedFor words program.SameFile = Ask words (λ asked. Unit {0})
RefusedFor words (program.Scenario fault) = Ask words IsOfScenario
RefusedFor words (program.Steps fault) = Ask words IsOfSteps
RefusedFor words program.Read = Ask words IsOfScenario
RefusedFor words (program.App fault) = Unit {0}

-- why the text of an error of such a kind is not shown: it is a mistake, or that is a fault of writing or of memory
abbrev pub IsUnshown : ErrorKind → ProgramFault → Type 0
IsUnshown kind program.Line = IsMistake kind
IsUnshown kind (program.App fault) = Unit {0}
IsUnshown kind (program.Scenario fault) = ⊥
IsUnshown kind (program.Steps fault) = ⊥
IsUnshown kind program.Read = ⊥
IsUnshown kind program.SameFile = ⊥

-- how it ends for words
abbrev pub EndsFor : List Text → Result Done Failure → Type 0
EndsFor words (Ok what) = DoneFor words what
EndsFor words (Err failure) = RefusedFor words failure.fault
