-- What the program has written where it ends.
use Rattle.std.specs.Prelude.{◌≡◌, ◌≢◌, ◌⊎◌, ℕ, Bool, List, None, Some, Result, Ok, Err, OnOk}
use Rattle.std.specs.Io.KnownBytes.{Appends}
use Rattle.clap.specs.Words.{Text}
use Rattle.kt_spacetime.specs.declared.event.Event.{Event}
use Rattle.kt_plan.specs.declared.steps.Step.{Step}
use Rattle.kt_plan.specs.Limits.{Planned}
use Rattle.kt_meaning.specs.Certificates.{certificates}
use Rattle.kt_report.specs.Exact.{report_of}
use Rattle.kt_meaning.specs.Follows.{FollowsPlan}
use Rattle.kt_meaning.specs.Promised.{IsPromised}
use Rattle.kt_explain.specs.Answers.{passes}
use Rattle.kt_explain.specs.declared.answer.Answer.{Answer}
use Rattle.kt_program.specs.declared.ending.Done.{Done}
use Rattle.kt_program.specs.declared.ending.Done.TheVariants.{Judged, Played, Certified, Drawn, Merged, Shown}
use Rattle.kt_program.specs.declared.fault.AppFault.TheVariants as app
use Rattle.kt_program.specs.declared.fault.Failure.{Failure}
use Rattle.kt_program.specs.declared.fault.ProgramFault.{ProgramFault}
use Rattle.kt_program.specs.declared.fault.ProgramFault.TheVariants as program
use Rattle.kt_program.specs.declared.line.Asked.{Asked}
use Rattle.kt_program.specs.declared.line.Run.{Run as RunAsked}
use Rattle.kt_program.specs.declared.line.Asked.TheVariants.{Certify, Check, Draw, Judge, Live, Merge, Play, Run}
use Rattle.kt_program.specs.Asking.{Ask, IsOfRun}
use Rattle.kt_run.specs.Runs.{IsLogOfRun}
use Rattle.kt_program.specs.Certified.{CertifiesTo, LeavesCertificates}
use Rattle.kt_program.specs.Drawn.{DrawsTo, LeavesPicture}
use Rattle.kt_program.specs.Judging.{AnswersFiles}
use Rattle.kt_program.specs.Merged.{LeavesLog, MergesTo}
use Rattle.kt_program.specs.Inputs.{AreGiven, IsPlanOfFile}
use Rattle.kt_program.specs.Names.{Name}
use Rattle.kt_program.specs.Played.{OverNew}
use Rattle.kt_program.specs.Made.{IsMadeAs, lived_run, order_by, played_run}
use Rattle.kt_program.specs.Status.{ended_status}
use Rattle.kt_program.specs.Stored.{BytesTold, JudgesFiles, answer_text}

-- an answer and lines below it, which is a yes exactly where this is true
abbrev pub AppendsAnswer : Bool → BytesTold → BytesTold → Type 0
AppendsAnswer passed old new =
    (answer : Answer) × (lines : List ℕ) × (passed ≡ passes answer) × Appends old new (answer_text answer lines)

-- the answer; at a fault nothing, unless it is one of the writer
abbrev pub LeavesAnswer : Result Bool Failure → BytesTold → BytesTold → Type 0
LeavesAnswer (Ok passed) old new = AppendsAnswer passed old new
LeavesAnswer (Err failure) old new = failure.fault ≢ program.App app.Write → new ≡ old

-- a fault of judging: of what is read or written, or standard output is a file that was read
abbrev pub IsOfJudging : ProgramFault → Type 0
IsOfJudging program.SameFile = Unit {0}
IsOfJudging (program.App fault) = Unit {0}
IsOfJudging _ = ⊥

-- the report of a run of a plan over new objects, of which all is so that is promised of a run
pub record AppendsReport (old new : BytesTold) : Type 0 where
  pub plan : Planned
  pub rows : List Event
  pub run : OverNew plan (IsLogOfRun plan) rows
  pub follows : FollowsPlan plan rows
  pub promised : IsPromised rows
  pub report : Appends old new (report_of plan rows (certificates rows))

-- the report of a run over new objects, of a plan that a file says, which begins with the steps that are given and is made as
-- is asked
pub record AppendsRun {F : Type 0} (told : F → BytesTold) (asked : RunAsked) (old new : BytesTold) : Type 0 where
  pub plan : Planned
  pub planned : IsPlanOfFile told plan
  pub given : List Step
  pub begins : AreGiven told asked.steps plan.names given
  pub steps : List Step
  pub rows : List Event
  pub made : OverNew plan (λ cast. IsMadeAs asked.by (order_by asked.seed) plan cast given steps) rows
  pub report : Appends old new (report_of plan rows (certificates rows))

-- the run's report; at a fault nothing, unless a writer failed or there was no memory for more of the report
abbrev pub LeavesPlayed : Result Done Failure → BytesTold → BytesTold → Type 0
LeavesPlayed (Ok what) old new = AppendsReport old new
LeavesPlayed (Err failure) old new =
    (failure.fault ≢ program.Line) × (failure.fault ≢ program.App app.Write → failure.fault ≢ program.App app.Memory → new ≡ old)

-- a fault of a scenario or of steps, of their files, or of memory
abbrev pub IsOfInput : ProgramFault → Type 0
IsOfInput program.Line = ⊥
IsOfInput program.SameFile = ⊥
IsOfInput (program.Scenario fault) = Unit {0}
IsOfInput (program.Steps fault) = Unit {0}
IsOfInput program.Read = Unit {0}
IsOfInput (program.App fault) = fault ≡ app.Memory

-- a fault of the files that are written: they can't be made ready, or one of them has another name too
abbrev pub IsOfOutputs : ProgramFault → Type 0
IsOfOutputs fault = (fault ≡ program.SameFile) ⊎ (fault ≡ program.App app.Write)

-- no fault of a text of steps
abbrev pub IsNotOfSteps : ProgramFault → Type 0
IsNotOfSteps program.Line = Unit {0}
IsNotOfSteps program.SameFile = Unit {0}
IsNotOfSteps (program.Scenario fault) = Unit {0}
IsNotOfSteps (program.Steps fault) = ⊥
IsNotOfSteps program.Read = Unit {0}
IsNotOfSteps (program.App fault) = Unit {0}

-- a fault of a text of steps only where one is named
abbrev pub IsOfNamedSteps : Name → ProgramFault → Type 0
IsOfNamedSteps None fault = IsNotOfSteps fault
IsOfNamedSteps (Some name) fault = Unit {0}

-- the same of all that the program does; nothing is said of the text of help
abbrev pub LeavesDone : Done → BytesTold → BytesTold → Type 0
LeavesDone (Judged passed) old new = AppendsAnswer passed old new
LeavesDone Played old new = AppendsReport old new
LeavesDone Certified old new = LeavesCertificates old new
LeavesDone Drawn old new = LeavesPicture old new
LeavesDone Merged old new = LeavesLog old new
LeavesDone Shown old new = Unit {0}

-- what is written for what is asked: the report of a run of the scenario, made as is asked
abbrev pub Plays : {F : Type 0} → (F → BytesTold) → BytesTold → BytesTold → Asked → Type 0
Plays told old new (Play scenario steps log cert) = AppendsRun told (played_run scenario steps log cert) old new
Plays told old new (Run run) = AppendsRun told run old new
Plays told old new (Live scenario log cert) = AppendsRun told (lived_run scenario log cert) old new
Plays told old new _ = ⊥

-- where a scenario was run, that is written which these words ask for
abbrev pub PlayedFor : {F : Type 0} → List Text → (F → BytesTold) → BytesTold → BytesTold → Done → Type 0
PlayedFor words told old new Played = Ask words (Plays told old new)
PlayedFor words told old new _ = Unit {0}

-- what is written of a stored log that is to be judged: the answer to the bytes of the files, and what is told of it
abbrev pub Judges : {F : Type 0} → (F → BytesTold) → BytesTold → BytesTold → Bool → Asked → Type 0
Judges told old new passed (Check log cert) = JudgesFiles told old new passed
Judges told old new passed (Judge asked) = AnswersFiles told asked old new passed
Judges told old new passed _ = ⊥

-- where a stored log was judged, that is written which these words ask for
abbrev pub JudgedFor : {F : Type 0} → List Text → (F → BytesTold) → BytesTold → BytesTold → Done → Type 0
JudgedFor words told old new (Judged passed) = Ask words (Judges told old new passed)
JudgedFor words told old new _ = Unit {0}

-- what is written of a log that is to be certified: its certificates go where that is asked
abbrev pub Certifies : {F : Type 0} → (F → BytesTold) → BytesTold → BytesTold → Asked → Type 0
Certifies told old new (Certify log cert) = CertifiesTo told cert old new
Certifies told old new _ = ⊥

-- where a log was certified, that is written which these words ask for
abbrev pub CertifiedFor : {F : Type 0} → List Text → (F → BytesTold) → BytesTold → BytesTold → Done → Type 0
CertifiedFor words told old new Certified = Ask words (Certifies told old new)
CertifiedFor words told old new _ = Unit {0}

-- what is written of a log that is to be drawn: its picture goes where that is asked
abbrev pub DrawsFor : {F : Type 0} → (F → BytesTold) → BytesTold → BytesTold → Asked → Type 0
DrawsFor told old new (Draw asked) = DrawsTo told asked old new
DrawsFor told old new _ = ⊥

-- where a log was drawn, that is written which these words ask for
abbrev pub DrawnFor : {F : Type 0} → List Text → (F → BytesTold) → BytesTold → BytesTold → Done → Type 0
DrawnFor words told old new Drawn = Ask words (DrawsFor told old new)
DrawnFor words told old new _ = Unit {0}

-- what is written of parts that are to be merged: their log goes where that is asked
abbrev pub MergesFor : {F : Type 0} → (F → BytesTold) → BytesTold → BytesTold → Asked → Type 0
MergesFor told old new (Merge asked) = MergesTo told asked old new
MergesFor told old new _ = ⊥

-- where parts were merged, that is written which these words ask for
abbrev pub MergedFor : {F : Type 0} → List Text → (F → BytesTold) → BytesTold → BytesTold → Done → Type 0
MergedFor words told old new Merged = Ask words (MergesFor told old new)
MergedFor words told old new _ = Unit {0}

-- a fault where part of a report may be written: there was no memory for more of it
abbrev pub IsInReport : List Text → ProgramFault → Type 0
IsInReport words fault = (fault ≡ program.App app.Memory) × Ask words IsOfRun

-- what these words leave
abbrev pub LeavesOutput : List Text → Result Done Failure → BytesTold → BytesTold → Type 0
LeavesOutput words (Ok what) old new = LeavesDone what old new
LeavesOutput words (Err failure) old new = failure.fault ≢ program.App app.Write → (new ≡ old) ⊎ IsInReport words failure.fault

-- how the program ends for these words: with the status of what it did; standard output has what that left, and standard
-- error nothing new without a fault
pub record EndsOn (words : List Text) (status : ℕ) (out_old out_new err_old err_new : BytesTold) : Type 0 where
  pub outcome : Result Done Failure
  pub status_is : status ≡ ended_status outcome
  pub output : LeavesOutput words outcome out_old out_new
  pub quiet : OnOk outcome (err_new ≡ err_old)

-- how it ends for the words that it was called with
abbrev pub Ends : ℕ → BytesTold → BytesTold → BytesTold → BytesTold → Type 0
Ends status out_old out_new err_old err_new = (words : List Text) × EndsOn words status out_old out_new err_old err_new
