-- How runs are made that are asked for, and what is so of those over new objects.
use Rattle.std.specs.Prelude.{◌≡◌, ◌≢◌, ℕ, List, Option, Some, None, false}
use Rattle.std.specs.Borrow.{Bor}
use Rattle.clap.specs.Words.{Text}
use Rattle.kt_core.specs.declared.faults.StepFault.{StepFault}
use Rattle.kt_object.specs.Holdings.{Content}
use Rattle.kt_plan.specs.Limits.{Planned}
use Rattle.kt_plan.specs.declared.steps.Step.{Step}
use Rattle.kt_run.specs.Faults.{is_of_cast}
use Rattle.kt_run.specs.Orders.{IsOneRefused}
use Rattle.kt_run.specs.Refused.{IsStepRefused}
use Rattle.kt_run.specs.declared.faults.RunFault.{RunFault}
use Rattle.kt_run.specs.declared.faults.RunFault.TheVariants as run_fault
use Rattle.kt_run.specs.declared.orders.Order.{Order}
use Rattle.kt_run.specs.declared.orders.Order.TheVariants.{Default, Drawn}
use Rattle.kt_run.specs.declared.recorded.Keep.{Keep}
use Rattle.kt_run.specs.declared.recorded.Keep.TheVariants.{Steps}
use Rattle.kt_spacetime.specs.declared.event.Event.{Event}
use Rattle.kt_threads.specs.Faults.{is_of_no_thread}
use Rattle.kt_threads.specs.declared.faults.LiveFault.{LiveFault}
use Rattle.kt_threads.specs.declared.faults.LiveFault.TheVariants as live_fault
use Rattle.kt_program.specs.declared.fault.AppFault.{AppFault}
use Rattle.kt_program.specs.declared.fault.AppFault.TheVariants as app
use Rattle.kt_program.specs.declared.line.By.{By}
use Rattle.kt_program.specs.declared.line.By.TheVariants.{Serial, Threads}
use Rattle.kt_program.specs.declared.line.Run.{Run}
use Rattle.kt_program.specs.declared.outputs.Outputs.{Outputs}
use Rattle.kt_program.specs.KeptLives.{IsKeptLive}
use Rattle.kt_program.specs.Names.{Name}
use Rattle.kt_program.specs.Outputs.{contents_of}
use Rattle.kt_program.specs.Played.{AreNew, OverNew, outputs}
use Rattle.kt_program.specs.Recorded.{IsKeptRun, KeptOutputs, kept_outputs}
use Rattle.kt_program.specs.Stored.{BytesTold}

-- the runs that are asked for, by default steps or by threads, where no steps are kept
abbrev pub played_run : Bor Text → Name → Name → Name → Run
played_run scenario steps log cert = record { by = Serial; scenario = scenario; steps = steps; seed = None; kept = None; log = log; cert = cert }

abbrev pub lived_run : Bor Text → Name → Name → Run
lived_run scenario log cert = record { by = Threads; scenario = scenario; steps = None; seed = None; kept = None; log = log; cert = cert }

-- the order in which steps are made: drawn where there is a seed
abbrev pub order_by : Option ℕ → Order
order_by None = Default
order_by (Some seed) = Drawn seed

-- these are the rows of a run by just these steps: after those given, those that come next in an order; or in whatever order
-- threads made them
abbrev pub IsMadeAs : By → Order → Planned → List (List Content) → List Step → List Step → List Event → Type 0
IsMadeAs Serial order plan cast given made rows = IsKeptRun plan cast given order made rows
IsMadeAs Threads order plan cast given made rows = IsKeptLive plan cast made rows

-- where steps are kept, those that are listed are all that were made
abbrev pub AreListed : Keep → List Step → List Step → Type 0
AreListed keep listed made = keep ≡ Steps → listed ≡ made

-- so they are over new objects, by steps of which these are listed
abbrev pub IsMadeOverNew : By → Order → Keep → Planned → List Step → List Step → List Event → Type 0
IsMadeOverNew by order keep plan given listed rows =
    (made : List Step) × AreListed keep listed made × OverNew plan (λ cast. IsMadeAs by order plan cast given made) rows

-- a step of a serial run in an order is refused for a reason, after so many others
abbrev pub IsRefusedIn : Order → Planned → List (List Content) → List Step → ℕ → StepFault → Type 0
IsRefusedIn Default plan cast given done why = IsStepRefused plan cast given done why
IsRefusedIn (Drawn seed) plan cast given done why = IsOneRefused plan cast done why

-- a fault of a serial run over new objects: those are as many as the plan asks for, of its kinds, and can always be saved and
-- brought back; no list is kept of what a process is told; a step is refused only where those before it are a run
pub record IsSerialFault (by : By) (order : Order) (plan : Planned) (given : List Step) (fault : RunFault) : Type 0 where
  pub serial : by ≡ Serial
  pub found : fault ≢ run_fault.Memory
  pub right : is_of_cast fault ≡ false
  pub objects : (p : ℕ) → fault ≢ run_fault.Object p
  pub untold : (p : ℕ) → fault ≢ run_fault.Journal p
  pub refused : (done : ℕ) (why : StepFault) → fault ≡ run_fault.Step done why → (cast : List (List Content)) × AreNew plan cast × IsRefusedIn order plan cast given done why

-- a fault of a run in threads over new objects
pub record IsThreadsFault (by : By) (fault : LiveFault) : Type 0 where
  pub threads : by ≡ Threads
  pub found : fault ≢ live_fault.Memory
  pub right : is_of_no_thread fault ≡ false
  pub objects : (p : ℕ) → fault ≢ live_fault.Object p

-- what a run that is made so meets over new objects
abbrev pub IsFaultOverNew : By → Order → Planned → List Step → AppFault → Type 0
IsFaultOverNew by order plan given (app.Run fault) = IsSerialFault by order plan given fault
IsFaultOverNew by order plan given (app.Live fault) = IsThreadsFault by fault
IsFaultOverNew by order plan given app.Memory = Unit {0}
IsFaultOverNew by order plan given app.Write = ⊥
IsFaultOverNew by order plan given app.RecordTooLong = ⊥
IsFaultOverNew by order plan given (app.Uncertified fault) = ⊥
IsFaultOverNew by order plan given (app.Unfit why) = ⊥
IsFaultOverNew by order plan given (app.Picture why) = ⊥
IsFaultOverNew by order plan given (app.Merge fault) = ⊥
IsFaultOverNew by order plan given (app.Log fault) = ⊥
IsFaultOverNew by order plan given (app.Cert fault) = ⊥

-- what a command's outputs tell, and standard output
abbrev pub told_by : {W : Type 0} → (W → BytesTold) → Outputs W → BytesTold → KeptOutputs
told_by told to report = kept_outputs (outputs (contents_of told to.log) (contents_of told to.cert) report) (contents_of told to.kept)
