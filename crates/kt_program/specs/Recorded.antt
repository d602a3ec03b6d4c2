-- What is written of runs of which the steps are kept.
use Rattle.std.specs.Prelude.{◌≡◌, ◌≢◌, ◌<◌, ◌≤◌, ◌⊎◌, ◌++◌, List, IfSome, length}
use Rattle.std.specs.Io.KnownBytes.{Appends}
use Rattle.kt_text.specs.Writing.{WritesFront}
use Rattle.kt_spacetime.specs.declared.event.Event.{Event}
use Rattle.kt_object.specs.Holdings.{Content}
use Rattle.kt_plan.specs.declared.steps.Step.{Step}
use Rattle.kt_plan.specs.Limits.{Planned}
use Rattle.kt_meaning.specs.Promised.{IsCertified}
use Rattle.kt_promises.specs.Progress.{progress_at_start}
use Rattle.kt_run.specs.OneRun.{SavesAll}
use Rattle.kt_run.specs.Orders.{IsOrderedRun}
use Rattle.kt_run.specs.Runs.{IsPlayed}
use Rattle.kt_run.specs.declared.faults.RunFault.TheVariants as run
use Rattle.kt_run.specs.declared.orders.Order.{Order}
use Rattle.kt_threads.specs.declared.faults.LiveFault.TheVariants as live
use Rattle.kt_scenario.specs.Steps.{AreSteps, most_steps}
use Rattle.kt_scenario.specs.Written.{steps_text}
use Rattle.kt_program.specs.Played.{Outputs, IsOfWriting, IsWritten, StopsInLog, StopsInCertificates, StopsInReport, certificate_text, log_text}
use Rattle.kt_program.specs.Stored.{BytesTold}
use Rattle.kt_program.specs.declared.fault.AppFault.{AppFault}
use Rattle.kt_program.specs.declared.fault.AppFault.TheVariants as app

-- a run that begins with these steps and goes on by default steps has these rows; and so has every such run, as far as no
-- save is refused in either
pub record IsPlayedAgain (plan : Planned) (cast : List (List Content)) (steps : List Step) (rows : List Event) : Type 0 where
  pub play : IsPlayed plan cast steps rows
  pub same : (others : List Event) → (other : IsPlayed plan cast steps others)
      → SavesAll plan (progress_at_start plan 0) (play.given ++ play.more) → SavesAll plan (progress_at_start plan 0) (other.given ++ other.more) → others ≡ rows

-- as many steps as a text of steps may have are read back as they are written
abbrev pub AreReadBack : Planned → List Step → Type 0
AreReadBack plan steps = length steps ≤ most_steps → AreSteps plan.names (steps_text plan.names steps) steps

-- these are the rows of a run by just these steps, those given and then those that come next in an order; played again by
-- these steps, which are read back as they are written, it is the same; and to its certificates the checker says yes
pub record IsKeptRun (plan : Planned) (cast : List (List Content)) (given : List Step) (order : Order) (steps : List Step) (rows : List Event) : Type 0 where
  pub run : IsOrderedRun plan cast given order steps rows
  pub again : IsPlayedAgain plan cast steps rows
  pub read : AreReadBack plan steps
  pub certified : IsCertified rows

-- what the four writers of such a run hold, as far as they tell it
pub record KeptOutputs : Type 0 where
  pub run : Outputs
  pub steps : BytesTold

-- the same, of what four writers tell
abbrev pub kept_outputs : Outputs → BytesTold → KeptOutputs
kept_outputs run steps = record { run = run; steps = steps }

-- the text of such steps is written, if it is asked for, and has no more of them than can be read
pub record WritesSteps (plan : Planned) (steps : List Step) (old new : BytesTold) : Type 0 where
  pub text : Appends old new (steps_text plan.names steps)
  pub few : IfSome old (λ _. length steps ≤ most_steps)

-- such a run by such steps is written, and the text of its steps
abbrev pub IsRecorded : (List Step → List Event → Type 0) → Planned → KeptOutputs → KeptOutputs → Type 0
IsRecorded Are plan old new =
    (steps : List Step) × IsWritten (Are steps) plan old.run new.run × WritesSteps plan steps old.steps new.steps

-- the log of these rows and their certificates are written, and no report
pub record WritesLog (rows : List Event) (old new : Outputs) : Type 0 where
  pub log : Appends old.log new.log (log_text rows)
  pub chains : Appends old.certificates new.certificates (certificate_text rows)
  pub report : new.report ≡ old.report

-- writing stops in the text of the steps: log and certificates and a front part of it are written, and no report
pub record StopsInSteps (plan : Planned) (steps : List Step) (rows : List Event) (old new : KeptOutputs) : Type 0 where
  pub log : WritesLog rows old.run new.run
  pub front : WritesFront old.steps new.steps (steps_text plan.names steps)

-- writing stops somewhere: in the log, in the certificates, in the text of the steps, or in the report, with all of what
-- comes earlier written, and nothing of what comes later
abbrev pub StopsWithin : Planned → List Step → List Event → KeptOutputs → KeptOutputs → Type 0
StopsWithin plan steps rows old new =
    (StopsInLog rows old.run new.run × (new.steps ≡ old.steps))
    ⊎ ((StopsInCertificates rows old.run new.run × (new.steps ≡ old.steps))
    ⊎ (StopsInSteps plan steps rows old new
    ⊎ (StopsInReport plan rows old.run new.run × Appends old.steps new.steps (steps_text plan.names steps))))

-- there are more steps than a text of steps has: the log and the certificates are written, and nothing else
pub record StopsAtLength (steps : List Step) (rows : List Event) (old new : KeptOutputs) : Type 0 where
  pub many : most_steps < length steps
  pub log : WritesLog rows old.run new.run
  pub none : new.steps ≡ old.steps

-- a fault that comes of writing, or of the number of steps
abbrev pub IsOfRecording : AppFault → Type 0
IsOfRecording fault = (fault ≡ app.RecordTooLong) ⊎ IsOfWriting fault

-- for some such run by such steps
abbrev pub OfSome : (List Step → List Event → Type 0) → (List Step → List Event → Type 0) → Type 0
OfSome Are Be = (steps : List Step) × (rows : List Event) × Are steps rows × Be steps rows

-- nothing is written
abbrev pub AreUnwritten : KeptOutputs → KeptOutputs → Type 0
AreUnwritten old new = new ≡ old

-- what is written where such a run by such steps is not written to its end
abbrev pub StopsRecording : (List Step → List Event → Type 0) → Planned → KeptOutputs → KeptOutputs → AppFault → Type 0
StopsRecording Are plan old new (app.Run fault) = (fault ≢ run.Memory) × AreUnwritten old new
StopsRecording Are plan old new app.RecordTooLong = OfSome Are (λ steps rows. StopsAtLength steps rows old new)
StopsRecording Are plan old new app.Write = OfSome Are (λ steps rows. StopsWithin plan steps rows old new)
StopsRecording Are plan old new app.Memory = AreUnwritten old new ⊎ OfSome Are (λ steps rows. StopsWithin plan steps rows old new)
StopsRecording Are plan old new (app.Live fault) = (fault ≢ live.Memory) × AreUnwritten old new
StopsRecording Are plan old new (app.Uncertified fault) = ⊥
StopsRecording Are plan old new (app.Unfit why) = ⊥
StopsRecording Are plan old new (app.Picture why) = ⊥
StopsRecording Are plan old new (app.Merge fault) = ⊥
StopsRecording Are plan old new (app.Log fault) = ⊥
StopsRecording Are plan old new (app.Cert fault) = ⊥
