-- What is written of runs, and over new objects.
use Rattle.std.proofs.Common.{◌≡◌, ◌<◌, ℕ, false, refl, length, inl, inr, List}
use Rattle.std.specs.Prelude.{Result, Ok, Err, OnOk, IfErr}
use Rattle.kt_core.specs.declared.faults.StepFault.{StepFault}
use Rattle.kt_object.specs.Casts.{HasSizes, HasKind}
use Rattle.kt_run.specs.Faults as run
use Rattle.kt_run.specs.declared.faults.RunFault.{RunFault}
use Rattle.kt_run.specs.declared.faults.RunFault.TheVariants as run_fault
use Rattle.kt_threads.specs.Faults as threads
use Rattle.kt_threads.specs.declared.faults.LiveFault.{LiveFault}
use Rattle.kt_threads.specs.declared.faults.LiveFault.TheVariants as live_fault
use Rattle.kt_object.specs.Holdings.{Content}
use Rattle.kt_plan.specs.Limits.{Planned}
use Rattle.kt_spacetime.specs.declared.event.Event.{Event}
use Rattle.kt_program.specs.declared.fault.AppFault.{AppFault}
use Rattle.kt_program.specs.declared.fault.AppFault.TheVariants as app
use Rattle.kt_program.specs.Played.{Outputs, IsWritten, AreNew, OverNew, StopsWriting, StopsAtFault, of_live, of_run}

-- objects that are as many as a plan asks for, of its kinds, are no fault
module _ (plan : Planned) (given : List (List ℕ)) (sizes : HasSizes plan.kinds plan.commands given)
    (kinds : (p : ℕ) → p < length plan.kinds → HasKind plan.kinds given p) where
  pub right_for_run : (fault : RunFault) → run.Answers plan given fault → run.is_of_cast fault ≡ false
  right_for_run run_fault.CastSize a = absurd (a sizes)
  right_for_run (run_fault.CastKind p) a = absurd (a.other (kinds p a.there))
  right_for_run (run_fault.Object p) a = refl
  right_for_run (run_fault.Journal p) a = refl
  right_for_run (run_fault.Step done why) a = refl
  right_for_run run_fault.Memory a = refl

  pub right_for_live : (fault : LiveFault) → threads.AnswersLive plan given fault → threads.is_of_no_thread fault ≡ false
  right_for_live live_fault.CastSize a = absurd (a sizes)
  right_for_live (live_fault.CastKind p) a = absurd (a.other (kinds p a.there))
  right_for_live (live_fault.Object p) a = refl
  right_for_live (live_fault.Journal p) a = absurd a
  right_for_live (live_fault.Step why) a = refl
  right_for_live live_fault.Spawn a = refl
  right_for_live live_fault.Differ a = refl
  right_for_live live_fault.Memory a = refl

-- a step that the program answers as refused is one that the run did
pub step_of_run : (fault : RunFault) (done : ℕ) (why : StepFault) → of_run fault ≡ app.Run (run_fault.Step done why) → fault ≡ run_fault.Step done why
step_of_run run_fault.CastSize done why e = absurd (cc (e))
step_of_run (run_fault.CastKind p) done why e = absurd (cc (e))
step_of_run (run_fault.Object p) done why e = absurd (cc (e))
step_of_run (run_fault.Journal p) done why e = absurd (cc (e))
step_of_run (run_fault.Step n other) done why e = cc e
step_of_run run_fault.Memory done why e = absurd (cc (e))

pub object_of_run : (fault : RunFault) (p : ℕ) → of_run fault ≡ app.Run (run_fault.Object p) → fault ≡ run_fault.Object p
object_of_run run_fault.CastSize p e = absurd (cc (e))
object_of_run (run_fault.CastKind q) p e = absurd (cc (e))
object_of_run (run_fault.Object q) p e = cc e
object_of_run (run_fault.Journal q) p e = absurd (cc (e))
object_of_run (run_fault.Step n other) p e = absurd (cc (e))
object_of_run run_fault.Memory p e = absurd (cc (e))

pub object_of_live : (fault : LiveFault) (p : ℕ) → of_live fault ≡ app.Live (live_fault.Object p) → fault ≡ live_fault.Object p
object_of_live live_fault.CastSize p e = absurd (cc (e))
object_of_live (live_fault.CastKind q) p e = absurd (cc (e))
object_of_live (live_fault.Object q) p e = cc e
object_of_live (live_fault.Journal q) p e = absurd (cc (e))
object_of_live (live_fault.Step why) p e = absurd (cc (e))
object_of_live live_fault.Spawn p e = absurd (cc (e))
object_of_live live_fault.Differ p e = absurd (cc (e))
object_of_live live_fault.Memory p e = absurd (cc (e))
