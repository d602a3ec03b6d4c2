-- What is written of runs whose steps are kept, and over new objects.
use Rattle.std.proofs.Common.{◌≡◌, ◌≢◌, ◌<◌, ◌≤◌, ◌∙◌, Some, None, inl, inr, List, ap, length, refl, subst, sym}
use Rattle.std.specs.Prelude.{Result, Ok, Err, IfOk, IfErr, IfSome, OnOk}
use Rattle.std.specs.Io.KnownBytes.{Appends}
use Rattle.kt_meaning.specs.Follows.{FollowsPlan}
use Rattle.kt_meaning.specs.Promised.{IsPromised}
use Rattle.kt_scenario.specs.Steps.{most_steps}
use Rattle.kt_scenario.specs.Written.{steps_text}
use Rattle.kt_text.specs.Writing.{WritesFront}
use Rattle.kt_plan.specs.Limits.{Planned}
use Rattle.kt_plan.specs.declared.steps.Step.{Step}
use Rattle.kt_spacetime.specs.declared.event.Event.{Event}
use Rattle.kt_run.specs.declared.recorded.Keep.{Keep}
use Rattle.kt_program.specs.Made.{AreListed}
use Rattle.kt_program.specs.Played.{IsOfWriting, WritesRun, outputs}
use Rattle.kt_program.specs.Recorded.{IsOfRecording, IsRecorded, KeptOutputs, OfSome, StopsRecording, WritesLog, WritesSteps, kept_outputs}
use Rattle.kt_program.specs.Stored.{BytesTold}
use Rattle.kt_program.specs.declared.fault.AppFault.{AppFault}
use Rattle.kt_program.specs.declared.fault.AppFault.TheVariants as app

-- what is written of such a run is written of one that is other things too
module _ (Are Be : List Step → List Event → Type 0) (so : (steps : List Step) (rows : List Event) → Are steps rows → Be steps rows) (plan : Planned) (old new : KeptOutputs) where
  some_so : (At : List Step → List Event → Type 0) → OfSome Are At → OfSome Be At
  some_so At s = (s.0, s.1, so s.0 s.1 s.2, s.3)

  pub recording_so : (fault : AppFault) → StopsRecording Are plan old new fault → StopsRecording Be plan old new fault
  recording_so (app.Run fault) s = s
  recording_so app.RecordTooLong s = some_so _ s
  recording_so app.Write s = some_so _ s
  recording_so app.Memory (inl u) = inl u
  recording_so app.Memory (inr s) = inr (some_so _ s)
  recording_so (app.Live fault) s = s
  recording_so (app.Uncertified fault) s = s
  recording_so (app.Unfit why) s = s
  recording_so (app.Picture why) s = s
  recording_so (app.Merge fault) s = s
  recording_so (app.Log fault) s = s
  recording_so (app.Cert fault) s = s

-- or nothing new
pub report_kept : (Are : List Step → List Event → Type 0) (plan : Planned) (old new : KeptOutputs) (fault : AppFault) → StopsRecording Are plan old new fault → fault ≢ app.Write → fault ≢ app.Memory
    → new.run.report ≡ old.run.report
report_kept Are plan old new (app.Run fault) s w m = ap (λ (o : KeptOutputs). o.run.report) s.1
report_kept Are plan old new app.RecordTooLong s w m = s.3.log.report
report_kept Are plan old new app.Write s w m = absurd (w refl)
report_kept Are plan old new app.Memory s w m = absurd (m refl)
report_kept Are plan old new (app.Live fault) s w m = ap (λ (o : KeptOutputs). o.run.report) s.1
report_kept Are plan old new (app.Uncertified fault) s w m = absurd s
report_kept Are plan old new (app.Unfit why) s w m = absurd s
report_kept Are plan old new (app.Picture why) s w m = absurd s
report_kept Are plan old new (app.Merge fault) s w m = absurd s
report_kept Are plan old new (app.Log fault) s w m = absurd s
report_kept Are plan old new (app.Cert fault) s w m = absurd s

-- what is listed, where the same is kept and the same is listed
pub listed_so : (keep was : Keep) (listed items made : List Step) → keep ≡ was → listed ≡ items → AreListed keep items made → AreListed was listed made
listed_so keep was listed items made k l h = λ e. l ∙ h (k ∙ e)

-- as many steps as can be read are written
pub writes_steps : (plan : Planned) (steps : List Step) (old new : BytesTold) → Appends old new (steps_text plan.names steps) → length steps ≤ most_steps → WritesSteps plan steps old new
writes_steps plan steps old new text few = record { text = text; few = go old }
  where
    go : (o : BytesTold) → IfSome o (λ _. length steps ≤ most_steps)
    go None = tt
    go (Some bytes) = few

-- writing stops at the steps
pub made_stopped : (Are : List Step → List Event → Type 0) (plan : Planned) (steps : List Step) (rows : List Event) (old new : KeptOutputs) (fault : AppFault) → Are steps rows → WritesLog rows old.run new.run → IsOfRecording fault
    → (fault ≡ app.RecordTooLong → (most_steps < length steps) × (new.steps ≡ old.steps)) → (IsOfWriting fault → WritesFront old.steps new.steps (steps_text plan.names steps)) → StopsRecording Are plan old new fault
made_stopped Are plan steps rows old new fault are log (inl e) long front =
    subst (StopsRecording Are plan old new) (sym e) (steps, rows, are, record { many = (long e).0; log = log; none = (long e).1 })
made_stopped Are plan steps rows old new fault are log (inr (inl e)) long front =
    subst (StopsRecording Are plan old new) (sym e) (steps, rows, are, inr (inr (inl (record { log = log; front = front (inl e) }))))
made_stopped Are plan steps rows old new fault are log (inr (inr e)) long front =
    subst (StopsRecording Are plan old new) (sym e) (inr (steps, rows, are, inr (inr (inl (record { log = log; front = front (inr e) })))))

-- a run that is written
module _ (r : Result Unit AppFault) (Are : List Step → List Event → Type 0) (plan : Planned) (steps made : List Step) (rows : List Event) (old new : KeptOutputs) (same : made ≡ steps) (are : Are steps rows) where
  pub recorded_by : FollowsPlan plan rows → IsPromised rows → OnOk r (WritesRun plan rows old.run new.run) → OnOk r (WritesSteps plan made old.steps new.steps) → OnOk r (IsRecorded Are plan old new)
  recorded_by follows promised = go r
    where
      go : (x : Result Unit AppFault) → OnOk x (WritesRun plan rows old.run new.run) → OnOk x (WritesSteps plan made old.steps new.steps) → OnOk x (IsRecorded Are plan old new)
      go (Ok u) writes text = (
        steps,
        record { rows = rows; run = are; follows = follows; promised = promised; writes = writes },
        subst (λ (l : List Step). WritesSteps plan l old.steps new.steps) same text,
      )
      go (Err fault) writes text = tt

  pub stopped_by : IfErr r (StopsRecording (λ m q. (m ≡ made) × (q ≡ rows)) plan old new) → IfErr r (StopsRecording Are plan old new)
  stopped_by = go r
    where
      go : (x : Result Unit AppFault) → IfErr x (StopsRecording (λ m q. (m ≡ made) × (q ≡ rows)) plan old new) → IfErr x (StopsRecording Are plan old new)
      go (Ok u) h = tt
      go (Err fault) h = recording_so (λ m q. (m ≡ made) × (q ≡ rows)) Are
          (λ m q e. subst (λ (l : List Event). Are m l) (sym e.1) (subst (λ (l : List Step). Are l rows) (sym (e.0 ∙ same)) are)) plan old new fault h
