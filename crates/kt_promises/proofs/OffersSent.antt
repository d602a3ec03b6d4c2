-- What an object offers is the body of the one row that its step adds.
use Rattle.std.proofs.Common.{◌≡◌, ℕ, ℤ, Bool, true, false, List, [], ◌∷◌, refl, ap, Some, None, sym, ◌∙◌}
use Rattle.std.specs.Prelude.{◌==◌, ◌&&◌, not, if◌then◌else◌, Option, ◌+◌}
use Rattle.kt_base.specs.declared.words.Cause.TheVariants.{Down}
use Rattle.kt_spacetime.specs.declared.event.Event.{Event}
use Rattle.kt_spacetime.specs.declared.event.Event.TheVariants.{Sent}
use Rattle.kt_fifo.specs.declared.parcels.Parcel.{Parcel}
use Rattle.kt_fifo.specs.declared.parcels.Parcel.TheVariants.{Ask}
use Rattle.kt_meaning.specs.Past.{is_rollback_kind}
use Rattle.kt_machine.specs.Seen.{Seen}
use Rattle.kt_machine.specs.Transition.{is_seen_ready}
use Rattle.kt_machine.specs.CallTests.{must_take}
use Rattle.kt_plan.specs.Limits.{Planned, IsPlan}
use Rattle.kt_plan.specs.declared.commands.Job.{Job}
use Rattle.kt_plan.specs.declared.commands.Command.{Command}
use Rattle.kt_plan.specs.declared.steps.Step.{Step}
use Rattle.kt_plan.specs.declared.steps.Step.TheVariants.{Do, Take}
use Rattle.kt_plan.specs.declared.steps.Give.{Give}
use Rattle.kt_promises.specs.Steps.{process_of_step, enabled}
use Rattle.kt_plan.specs.declared.steps.Look.{Look}
use Rattle.kt_plan.specs.declared.steps.Look.TheVariants.{Idle, NeedsBody, NeedsSave, Plain}
use Rattle.kt_promises.specs.Looks.{look_of_job, look, look_of_step, look_of_command, look_of_front, uses_body}
use Rattle.kt_promises.specs.Rows.{AreRowsOfCommand, refusal_cause, AreRowsOfDo, is_offer_job, is_offer_command, is_offer_step, has_sent_row}
use Rattle.kt_plan.specs.declared.commands.Job.TheVariants as job
use Rattle.kt_promises.specs.Progress.{Progress, next_command}
use Rattle.kt_fifo.specs.Queues.{has_parcel}
use Rattle.kt_promises.specs.Runs.{RunReaches}
use Rattle.kt_promises.specs.StepActs.{rows_added}
use Rattle.kt_promises.proofs.RowsFit.{fits}

save_not : (b : Bool) → uses_body (if b then NeedsSave else Plain) ≡ false
save_not true = refl
save_not false = refl

not_it : (l : Look) → uses_body l ≡ false → l ≡ NeedsBody → ⊥
not_it l e f = let x = ap uses_body f in cc (x, e)

job_offered : (v : Seen) (p k : ℕ) (able : Bool) (j : Job) (z : ℤ) (l : List Event) → look_of_job ((v.states p).inst == 0) (v.states p).up j ≡ NeedsBody → AreRowsOfCommand k p j z (refusal_cause (v.states p) able j) l → (q : ℕ) × (l ≡ Sent p q z ∷ [])
job_offered v p k able (job.Send q None) z l e f = go (v.states p).up e f
  where
    go : (u : Bool) → (if u then NeedsBody else Plain) ≡ NeedsBody → AreRowsOfCommand k p (job.Send q None) z (if u then None else Some Down) l → (q : ℕ) × (l ≡ Sent p q z ∷ [])
    go true e f = (q, f)
    go false e f = absurd (cc (e))
job_offered v p k able (job.Send q (Some b)) z l e f = absurd (cc (e))
job_offered v p k able job.Checkpoint z l e f = absurd (not_it _ (save_not ((v.states p).inst == 0 && (v.states p).up)) e)
job_offered v p k able job.Rollback z l e f = absurd (cc (e))
job_offered v p k able job.Fail z l e f = absurd (cc (e))

-- a step that asks for something is enabled
looked : (plan : Planned) (w : Progress) (x : Step) → look plan w x ≡ NeedsBody → (enabled plan w x ≡ true) × (look_of_step plan w x ≡ NeedsBody)
looked plan w x = go (enabled plan w x)
  where
    go : (b : Bool) → (if b then look_of_step plan w x else Idle) ≡ NeedsBody → (b ≡ true) × (look_of_step plan w x ≡ NeedsBody)
    go true e = (refl, e)
    go false e = absurd (cc (e))

command_offered : (w : Progress) (p : ℕ) (give : Give) (o : Option Command) (l : List Event) → look_of_command w p o ≡ NeedsBody → AreRowsOfDo w.now p give o l → (q : ℕ) × (l ≡ Sent p q give.body ∷ [])
command_offered w p give None l e f = absurd (cc (e))
command_offered w p give (Some c) l e f = job_offered w.now p _ give.able c.job give.body l e f

pub offered_seen : (plan : Planned) (first : ℕ) (w : Progress) (p : ℕ) (give : Give) → IsPlan plan → RunReaches plan first w → look plan w (Do p) ≡ NeedsBody → (q : ℕ) × (rows_added plan w (Do p) give ≡ Sent p q give.body ∷ [])
offered_seen plan first w p give i r e = let h = looked plan w (Do p) e in command_offered w p give (next_command plan w p) (rows_added plan w (Do p) give) h.1 (fits plan first w (Do p) give i r h.0).fit

-- and its process is up
job_up : (free u : Bool) (j : Job) → look_of_job free u j ≡ NeedsBody → u ≡ true
job_up free true (job.Send q None) e = refl
job_up free false (job.Send q None) e = absurd (cc (e))
job_up free u (job.Send q (Some b)) e = absurd (cc (e))
job_up free u job.Checkpoint e = absurd (not_it _ (save_not (free && u)) e)
job_up free u job.Rollback e = absurd (cc (e))
job_up free u job.Fail e = absurd (cc (e))

command_up : (w : Progress) (p : ℕ) (o : Option Command) → look_of_command w p o ≡ NeedsBody → (w.now.states p).up ≡ true
command_up w p None e = absurd (cc (e))
command_up w p (Some c) e = job_up ((w.now.states p).inst == 0) (w.now.states p).up c.job e

front_not : (v : Seen) (p q : ℕ) (l : List Parcel) → uses_body (look_of_front v p q l) ≡ false
front_not v p q (Ask k kind l ∷ rest) =
    save_not (((v.states p).inst == 0 && not (is_rollback_kind (Some kind))) && (must_take (v.states p).calls q l && (v.states p).up))
front_not v p q _ = refl

take_not : (b : Bool) (l : Look) → uses_body l ≡ false → uses_body (if b then Plain else l) ≡ false
take_not true l e = refl
take_not false l e = e

step_up : (plan : Planned) (w : Progress) (x : Step) → look_of_step plan w x ≡ NeedsBody → (w.now.states (process_of_step x)).up ≡ true
step_up plan w (Do p) e = command_up w p (next_command plan w p) e
step_up plan w (Take p q) e = absurd (not_it _ (take_not (not (is_seen_ready w.now p) && has_parcel (w.now.held q p)) _ (front_not w.now p q (w.now.channel q p))) e)

pub up_seen : (plan : Planned) (w : Progress) (x : Step) → look plan w x ≡ NeedsBody → (w.now.states (process_of_step x)).up ≡ true
up_seen plan w x e = step_up plan w x (looked plan w x e).1

and_false : (b : Bool) → (b && false) ≡ false
and_false true = refl
and_false false = refl

-- a process that is up sends what its object offers, by its next command
abbrev sends_offer : Planned → Progress → Step → Bool
sends_offer plan w (Do p) = (w.now.states p).up && is_offer_command (next_command plan w p)
sends_offer plan w (Take p q) = false

-- where a step may be made, it asks for a body exactly where it sends what the object offers
job_needs : (free u : Bool) (j : Job) → uses_body (look_of_job free u j) ≡ (u && is_offer_job j)
job_needs free true (job.Send q None) = refl
job_needs free false (job.Send q None) = refl
job_needs free u (job.Send q (Some b)) = sym (and_false u)
job_needs free u job.Checkpoint = save_not (free && u) ∙ sym (and_false u)
job_needs free u job.Rollback = sym (and_false u)
job_needs free u job.Fail = sym (and_false u)

body_needed : (plan : Planned) (w : Progress) (x : Step) → enabled plan w x ≡ true → uses_body (look plan w x) ≡ sends_offer plan w x
body_needed plan w x e = ap (λ (b : Bool). uses_body (if b then look_of_step plan w x else Idle)) e ∙ of_step x
  where
    of_command : (p : ℕ) (o : Option Command) → uses_body (look_of_command w p o) ≡ ((w.now.states p).up && is_offer_command o)
    of_command p None = sym (and_false (w.now.states p).up)
    of_command p (Some c) = job_needs ((w.now.states p).inst == 0) (w.now.states p).up c.job

    of_step : (x : Step) → uses_body (look_of_step plan w x) ≡ sends_offer plan w x
    of_step (Do p) = of_command p (next_command plan w p)
    of_step (Take p q) = take_not (not (is_seen_ready w.now p) && has_parcel (w.now.held q p)) _ (front_not w.now p q (w.now.channel q p))

-- what an object offers is sent exactly there
job_sent : (v : Seen) (p k : ℕ) (able : Bool) (j : Job) (z : ℤ) (l : List Event) → AreRowsOfCommand k p j z (refusal_cause (v.states p) able j) l → (is_offer_job j && has_sent_row l) ≡ ((v.states p).up && is_offer_job j)
job_sent v p k able (job.Send q None) z l e = go (v.states p).up e
  where
    go : (u : Bool) → AreRowsOfCommand k p (job.Send q None) z (if u then None else Some Down) l → has_sent_row l ≡ (u && true)
    go true e = rw e refl
    go false e = rw e refl
job_sent v p k able (job.Send q (Some b)) z l e = sym (and_false (v.states p).up)
job_sent v p k able job.Checkpoint z l e = sym (and_false (v.states p).up)
job_sent v p k able job.Rollback z l e = sym (and_false (v.states p).up)
job_sent v p k able job.Fail z l e = sym (and_false (v.states p).up)

command_sent : (v : Seen) (p : ℕ) (give : Give) (o : Option Command) (l : List Event) → AreRowsOfDo v p give o l → (is_offer_command o && has_sent_row l) ≡ ((v.states p).up && is_offer_command o)
command_sent v p give None l e = sym (and_false (v.states p).up)
command_sent v p give (Some c) l e = job_sent v p (v.begun + 1) give.able c.job give.body l e

pub sent_seen : (plan : Planned) (first : ℕ) (w : Progress) (x : Step) (give : Give) → IsPlan plan → RunReaches plan first w → enabled plan w x ≡ true → (is_offer_step plan w x && has_sent_row (rows_added plan w x give)) ≡ uses_body (look plan w x)
sent_seen plan first w (Do p) give i r e = command_sent w.now p give (next_command plan w p) (rows_added plan w (Do p) give) (fits plan first w (Do p) give i r e).fit ∙ sym (body_needed plan w (Do p) e)
sent_seen plan first w (Take p q) give i r e = sym (body_needed plan w (Take p q) e)
