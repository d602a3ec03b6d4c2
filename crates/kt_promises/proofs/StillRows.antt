-- A process in a rollback neither sends, nor receives, nor drops a message.
use Rattle.std.proofs.Common.{length, ◌≡◌, ◌≢◌, ℕ, ℤ, zero, suc, ◌+◌, Bool, true, false, List, [], ◌∷◌, refl, sym, ap, ap₂, subst, ◌∙◌, Some, None}
use Rattle.std.specs.Prelude.{Option, ◌==◌, ◌||◌, not, nat_lt, slice_get}
use Rattle.kt_base.specs.declared.words.Cause.{Cause}
use Rattle.kt_base.specs.declared.words.Cause.TheVariants.{Busy, Down}
use Rattle.kt_fifo.specs.declared.parcels.Parcel.{Parcel}
use Rattle.kt_fifo.specs.declared.parcels.Parcel.TheVariants.{App, Ask, Reply, Decide}
use Rattle.kt_spacetime.specs.declared.event.Event.{Event}
use Rattle.kt_spacetime.specs.declared.event.Event.TheVariants.{Sent, Received, Dropped}
use Rattle.kt_meaning.proofs.RowRules.{both, neither, not_true}
use Rattle.kt_protocol.proofs.Choices.{at_if}
use Rattle.kt_machine.specs.Seen.{SeenProcess, Seen}
use Rattle.kt_machine.specs.Transition.{is_seen_ready}
use Rattle.kt_plan.specs.declared.commands.Job.{Job}
use Rattle.kt_plan.specs.declared.commands.Command.{Command}
use Rattle.kt_plan.specs.Limits.{Planned, IsPlan}
use Rattle.kt_plan.specs.declared.commands.Job.TheVariants as job
use Rattle.kt_promises.specs.Rows.{AreRowsOfCommand, is_instance_row, are_instance_rows, refusal_cause, list_taken, AreRowsOfMessage, AreRowsOfTake, AreRowsOfDo, AreRowsOfStep}
use Rattle.kt_plan.specs.declared.steps.Step.{Step}
use Rattle.kt_plan.specs.declared.steps.Step.TheVariants.{Do, Take}
use Rattle.kt_plan.specs.declared.steps.Give.{Give}
use Rattle.kt_promises.specs.Steps.{process_of_step, may_do_job, may_do, enabled, progress_after}
use Rattle.kt_promises.specs.Progress.{Progress, next_command}
use Rattle.kt_promises.specs.Runs.{RunReaches}
use Rattle.kt_promises.specs.StepActs.{rows_added}
use Rattle.kt_promises.proofs.RowsFit.{fits}

-- a row that concerns a message
abbrev of_message : Event → Bool
of_message (Sent p q body) = true
of_message (Received p q m) = true
of_message (Dropped p q m) = true
of_message _ = false

abbrev any_of_message : List Event → Bool
any_of_message [] = false
any_of_message (x ∷ xs) = of_message x || any_of_message xs

none_there : (l : List Event) (i : ℕ) (row : Event) → any_of_message l ≡ false → slice_get l i ≡ Some row → of_message row ≡ false
none_there [] i row n e = absurd (cc (e))
none_there (x ∷ l) zero row n e = let s : x ≡ row = cc (e) in ap of_message (sym s) ∙ (neither (of_message x) (any_of_message l) n).0
none_there (x ∷ l) (suc i) row n e = none_there l i row (neither (of_message x) (any_of_message l) n).1 e

instance_row : (p : ℕ) (row : Event) → is_instance_row p row ≡ true → of_message row ≡ false
instance_row p (Sent u v body) e = absurd (cc (e))
instance_row p (Received u v m) e = absurd (cc (e))
instance_row p (Dropped u v m) e = absurd (cc (e))
instance_row p _ e = refl

instance_rows : (p : ℕ) (l : List Event) → are_instance_rows p l ≡ true → any_of_message l ≡ false
instance_rows p [] e = refl
instance_rows p (x ∷ l) e = let b = both (is_instance_row p x) (are_instance_rows p l) e in ap₂ (λ (s t : Bool). s || t) (instance_row p x b.0) (instance_rows p l b.1)

-- in an instance no command of its process concerns a message
job_still : (k p : ℕ) (j : Job) (body : ℤ) (y : SeenProcess) (able : Bool) (rows : List Event) → (y.inst == 0) ≡ false → may_do_job (y.inst == 0) j ≡ true → AreRowsOfCommand k p j body (refusal_cause y able j) rows → any_of_message rows ≡ false
job_still k p (job.Send q b) body y able rows z d f = absurd (cc (d, z))
job_still k p job.Checkpoint body y able rows z d f =
    let c : refusal_cause y able job.Checkpoint ≡ Some (Busy y.inst) = rw z refl in
    ap any_of_message (subst (λ (o : Option Cause). AreRowsOfCommand k p job.Checkpoint body o rows) c f)
job_still k p job.Rollback body y able rows z d f =
    let c : refusal_cause y able job.Rollback ≡ Some (Busy y.inst) = rw z refl in
    ap any_of_message (subst (λ (o : Option Cause). AreRowsOfCommand k p job.Rollback body o rows) c f)
job_still k p job.Fail body y able rows z d f = at_if (λ (o : Option Cause). AreRowsOfCommand k p job.Fail body o rows → any_of_message rows ≡ false) y.up None (Some Down) (λ _ e. ap any_of_message e) (λ _ e. ap any_of_message e) f

take_still : (v v' : Seen) (p q : ℕ) (l : List Parcel) (rows : List Event) → is_seen_ready v p ≡ true → AreRowsOfTake v v' p q l rows → any_of_message rows ≡ false
take_still v v' p q [] rows z f = ap any_of_message f
take_still v v' p q (App l m body ∷ rest) rows z f = ap any_of_message (subst (λ (b : Bool). AreRowsOfMessage v v' p q (App l m body) m b (v.states p).up rows) z f).0
take_still v v' p q (Ask k kind l ∷ rest) rows z f = instance_rows p rows f.0
take_still v v' p q (Reply k w ∷ rest) rows z f = instance_rows p rows f.0
take_still v v' p q (Decide k c ∷ rest) rows z f = instance_rows p rows f.0

step_still : (plan : Planned) (w : Progress) (x : Step) (give : Give) (rows : List Event) → enabled plan w x ≡ true → is_seen_ready w.now (process_of_step x) ≡ true → AreRowsOfStep plan w x give rows → any_of_message rows ≡ false
step_still plan w (Do p) give rows e z f = go (next_command plan w p) (both (nat_lt p (length plan.names)) (may_do w p (next_command plan w p)) e).1 f
  where
    inside : ((w.now.states p).inst == 0) ≡ false
    inside = not_true ((w.now.states p).inst == 0) (both (not ((w.now.states p).inst == 0)) (w.now.states p).part.is_rollback z).0

    go : (o : Option Command) → may_do w p o ≡ true → AreRowsOfDo w.now p give o rows → any_of_message rows ≡ false
    go None d f = ap any_of_message f
    go (Some c) d f = job_still (w.now.begun + 1) p c.job give.body (w.now.states p) give.able rows inside (both (c.phase == w.phase) (may_do_job ((w.now.states p).inst == 0) c.job) d).1 f
step_still plan w (Take p q) give rows e z f = take_still w.now (progress_after plan w (Take p q) give).now p q (list_taken w.now p q) rows z f

pub still_seen : (plan : Planned) (first : ℕ) (w : Progress) (x : Step) (give : Give) (i p q m : ℕ) (body : ℤ) → IsPlan plan → RunReaches plan first w → enabled plan w x ≡ true → is_seen_ready w.now (process_of_step x) ≡ true →
    (slice_get (rows_added plan w x give) i ≢ Some (Sent p q body)) × (slice_get (rows_added plan w x give) i ≢ Some (Received p q m)) × (slice_get (rows_added plan w x give) i ≢ Some (Dropped p q m))
still_seen plan first w x give i p q m body a r e z = (λ f. differ (none (Sent p q body) f), λ f. differ (none (Received p q m) f), λ f. differ (none (Dropped p q m) f))
  where
    differ : true ≡ false → ⊥
    differ e = cc (e)

    none : (row : Event) → slice_get (rows_added plan w x give) i ≡ Some row → of_message row ≡ false
    none row f = none_there (rows_added plan w x give) i row (step_still plan w x give (rows_added plan w x give) e z (fits plan first w x give a r e).fit) f
