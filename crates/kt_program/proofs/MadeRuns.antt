-- Runs over new objects, made in any way, and what is written of them.
use Rattle.std.proofs.Common.{◌≡◌, ◌≢◌, ◌∙◌, ◌++◌, ℕ, Some, None, inl, inr, List, ap, refl, subst, sym, false}
use Rattle.std.specs.Prelude.{Err}
use Rattle.kt_core.specs.declared.faults.StepFault.{StepFault}
use Rattle.kt_object.specs.Holdings.{Content}
use Rattle.kt_plan.specs.Limits.{Planned}
use Rattle.kt_plan.specs.declared.steps.Step.{Step}
use Rattle.kt_run.specs.Faults.{is_of_cast}
use Rattle.kt_run.specs.Runs.{IsLogOfRun}
use Rattle.kt_run.specs.Orders.{IsOneRefused}
use Rattle.kt_run.specs.Refused.{IsStepRefused}
use Rattle.kt_run.specs.declared.orders.Order.{Order}
use Rattle.kt_run.specs.declared.orders.Order.TheVariants.{Default, Drawn}
use Rattle.kt_run.specs.declared.faults.RunFault.{RunFault}
use Rattle.kt_run.specs.declared.faults.RunFault.TheVariants as run_fault
use Rattle.kt_spacetime.specs.declared.event.Event.{Event}
use Rattle.kt_threads.specs.Faults.{is_of_no_thread}
use Rattle.kt_threads.specs.declared.faults.LiveFault.{LiveFault}
use Rattle.kt_threads.specs.declared.faults.LiveFault.TheVariants as live_fault
use Rattle.kt_program.specs.declared.fault.AppFault.{AppFault}
use Rattle.kt_program.specs.declared.fault.AppFault.TheVariants as app
use Rattle.kt_program.specs.declared.fault.Failure.{Failure}
use Rattle.kt_program.specs.declared.fault.ProgramFault.{ProgramFault}
use Rattle.kt_program.specs.declared.fault.ProgramFault.TheVariants as program
use Rattle.kt_program.specs.declared.line.By.{By}
use Rattle.kt_program.specs.declared.line.By.TheVariants.{Serial, Threads}
use Rattle.kt_program.specs.declared.line.Run.{Run}
use Rattle.kt_program.specs.Ending.{AppendsReport, AppendsRun, IsNotOfSteps, IsOfNamedSteps, IsOfOutputs, LeavesPlayed}
use Rattle.kt_program.specs.Inputs.{AreGiven, IsPlanOfFile}
use Rattle.kt_program.specs.Made.{IsFaultOverNew, IsMadeAs, IsRefusedIn, order_by}
use Rattle.kt_program.specs.Names.{Name}
use Rattle.kt_program.specs.Played.{AreNew, OverNew, of_live, of_run}
use Rattle.kt_program.specs.Recorded.{IsRecorded, KeptOutputs, StopsRecording}
use Rattle.kt_program.specs.Stored.{BytesTold}
use Rattle.kt_program.proofs.OrderedRuns.{report_kept}

-- it is a run of the plan
log_of_made : (by : By) (order : Order) (plan : Planned) (cast : List (List Content)) (given made : List Step) (rows : List Event) → IsMadeAs by order plan cast given made rows → IsLogOfRun plan cast rows
log_of_made Serial order plan cast given made rows is = (is.run.by.moves, is.run.by.run)
log_of_made Threads order plan cast given made rows is = (is.run.moves, is.run.run)

-- standard output has the report of such a run
module _ (by : By) (order : Order) (plan : Planned) (given : List Step) (old new : KeptOutputs) where
  pub report_of_made : IsRecorded (λ made. OverNew plan (λ cast. IsMadeAs by order plan cast given made)) plan old new → AppendsReport old.run.report new.run.report
  report_of_made w = record {
    plan = plan;
    rows = w.1.rows;
    run = (w.1.run.0, w.1.run.1, log_of_made by order plan w.1.run.0 given w.0 w.1.rows w.1.run.2);
    follows = w.1.follows;
    promised = w.1.promised;
    report = w.1.writes.report;
  }

pub made_of_file : {F : Type 0} (told : F → BytesTold) (asked : Run) (plan : Planned) (given : List Step) (old new : KeptOutputs) → IsPlanOfFile told plan → AreGiven told asked.steps plan.names given
    → IsRecorded (λ made. OverNew plan (λ cast. IsMadeAs asked.by (order_by asked.seed) plan cast given made)) plan old new → AppendsRun told asked old.run.report new.run.report
made_of_file told asked plan given old new planned begins w = record {
  plan = plan;
  planned = planned;
  given = given;
  begins = begins;
  steps = w.0;
  rows = w.1.rows;
  made = w.1.run;
  report = w.1.writes.report;
}

-- at a fault of such a run standard output has nothing new, unless the writer failed or there was no memory
pub left_of_made : (Are : List Step → List Event → Type 0) (plan : Planned) (old new : KeptOutputs) (failure : Failure) (fault : AppFault) → failure.fault ≡ program.App fault
    → StopsRecording Are plan old new fault → LeavesPlayed (Err failure) old.run.report new.run.report
left_of_made Are plan old new failure fault is stops = (
  (λ e. cc (sym is ∙ e)),
  λ w m. report_kept Are plan old new fault stops (λ e. w (is ∙ ap program.App e)) (λ e. m (is ∙ ap program.App e)),
)

-- a fault of outputs, or of what is done once they are open, is none of steps
not_of_steps : (name : Name) (fault : ProgramFault) → IsNotOfSteps fault → IsOfNamedSteps name fault
not_of_steps None fault h = h
not_of_steps (Some name) fault h = tt

pub outputs_named : (name : Name) (fault : ProgramFault) → IsOfOutputs fault → IsOfNamedSteps name fault
outputs_named name fault (inl e) = not_of_steps name fault (subst IsNotOfSteps (sym e) tt)
outputs_named name fault (inr e) = not_of_steps name fault (subst IsNotOfSteps (sym e) tt)

pub app_named : (name : Name) (fault : ProgramFault) (why : AppFault) → fault ≡ program.App why → IsOfNamedSteps name fault
app_named name fault why is = not_of_steps name fault (subst IsNotOfSteps (sym is) tt)

-- what a run meets over new objects, as the program answers it
module _ (by : By) (order : Order) (plan : Planned) (given : List Step) where
  pub serial_fault : (fault : RunFault) → by ≡ Serial → is_of_cast fault ≡ false → ((p : ℕ) → fault ≢ run_fault.Object p) → ((p : ℕ) → fault ≢ run_fault.Journal p)
      → ((done : ℕ) (why : StepFault) → fault ≡ run_fault.Step done why → (cast : List (List Content)) × AreNew plan cast × IsRefusedIn order plan cast given done why)
      → IsFaultOverNew by order plan given (of_run fault)
  serial_fault run_fault.Memory serial right objects untold refused = tt
  serial_fault run_fault.CastSize serial right objects untold refused = record { serial = serial; found = λ e. cc (e); right = right; objects = objects; untold = untold; refused = refused }
  serial_fault (run_fault.CastKind p) serial right objects untold refused = record { serial = serial; found = λ e. cc (e); right = right; objects = objects; untold = untold; refused = refused }
  serial_fault (run_fault.Object p) serial right objects untold refused = absurd (objects p refl)
  serial_fault (run_fault.Journal p) serial right objects untold refused = absurd (untold p refl)
  serial_fault (run_fault.Step done why) serial right objects untold refused = record { serial = serial; found = λ e. cc (e); right = right; objects = objects; untold = untold; refused = refused }

  pub threads_fault : (fault : LiveFault) → by ≡ Threads → is_of_no_thread fault ≡ false → ((p : ℕ) → fault ≢ live_fault.Object p) → IsFaultOverNew by order plan given (of_live fault)
  threads_fault live_fault.Memory threads right objects = tt
  threads_fault live_fault.CastSize threads right objects = record { threads = threads; found = λ e. cc (e); right = right; objects = objects }
  threads_fault (live_fault.CastKind p) threads right objects = record { threads = threads; found = λ e. cc (e); right = right; objects = objects }
  threads_fault (live_fault.Object p) threads right objects = absurd (objects p refl)
  threads_fault (live_fault.Journal p) threads right objects = record { threads = threads; found = λ e. cc (e); right = right; objects = objects }
  threads_fault (live_fault.Step why) threads right objects = record { threads = threads; found = λ e. cc (e); right = right; objects = objects }
  threads_fault live_fault.Spawn threads right objects = record { threads = threads; found = λ e. cc (e); right = right; objects = objects }
  threads_fault live_fault.Differ threads right objects = record { threads = threads; found = λ e. cc (e); right = right; objects = objects }

-- a step that is refused over objects that are new
pub refused_anew : (order was : Order) (plan : Planned) (cast : List (List Content)) (given : List Step) (done : ℕ) (why : StepFault) → was ≡ order → AreNew plan cast → IsRefusedIn was plan cast given done why
    → (c : List (List Content)) × AreNew plan c × IsRefusedIn order plan c given done why
refused_anew order was plan cast given done why e new is = (cast, new, subst (λ (o : Order). IsRefusedIn o plan cast given done why) e is)

-- by default it is refused after the steps given, else after those of some run
pub refused_in : (order : Order) (plan : Planned) (cast : List (List Content)) (given : List Step) (done : ℕ) (why : StepFault) → (order ≡ Default → IsStepRefused plan cast given done why) → IsOneRefused plan cast done why
    → IsRefusedIn order plan cast given done why
refused_in Default plan cast given done why given_refused one = given_refused refl
refused_in (Drawn seed) plan cast given done why given_refused one = one
